use Rattle.std.proofs.Common.{◌∙◌, refl, arith}
use Rattle.pricing.proofs.WalkStates.{bonds-first}
use Rattle.pricing.proofs.WalkTurns.{turn-steppable, turn-limited, turn-over, turn-next}
use Rattle.pricing.proofs.StripTurns.{kept-none, kept_next, kept-refused, kept_whole}
use Rattle.pricing.proofs.walk.keep_bond.Goals as goal

pub loop-row-init : goal.loop-row-init
loop-row-init c =
    let ready = c.requires.0 in (
      bonds-first _ _ _ _ ready.tree ready.paid _ (λ k h. c.fill.ensures.clones k 0 (omega arith) refl ∙ c.flow_of.ensures),
      kept-none ready c.args.kept.now,
    )

pub keep_step-greatest-requires : goal.keep_step-greatest-requires
keep_step-greatest-requires c =
    let l = c.loop-row in
    let e = c.flow_of-flow.ensures in (
      turn-steppable c.requires.0 l.row l.later.now c.loop-row-test.true l.invariant.0 _ e,
      turn-limited c.requires.0 l.row l.later.now c.loop-row-test.true l.invariant.0 _ e,
      omega arith,
    )

pub returns-then-greatest-gt-VALUE_LIMIT : goal.returns-then-greatest-gt-VALUE_LIMIT
returns-then-greatest-gt-VALUE_LIMIT c =
    let l = c.loop-row in
    let some = c.loop-row-test.true in
    kept-refused c.requires.0 _ l.later.now
    (turn-over c.requires.0 l.row l.later.now some l.invariant.0 _ c.flow_of-flow.ensures _ _ c.keep_step-greatest.ensures.rolled 0 _
    some c.if-greatest-gt-VALUE_LIMIT.true)

pub loop-row-preserved : goal.loop-row-preserved
loop-row-preserved c =
    let l = c.loop-row in
    let some = c.loop-row-test.true in
    let e = c.flow_of-flow.ensures in
    let next = turn-next c.requires.0 l.row l.later.now some l.invariant.0 _ e _ _ c.keep_step-greatest.ensures.rolled
    c.if-greatest-gt-VALUE_LIMIT.false in
    rw c.swap.ensures.x_after (next, kept_next c.requires.0 l.row some l.kept _ _ l.invariant.1 next _ e c.keep_step-greatest.ensures.laid)

pub returns : goal.returns
returns c =
    let l = c.loop-row in
    kept_whole c.requires.0 l.row l.kept l.later.now (omega arith) l.invariant.0 l.invariant.1
