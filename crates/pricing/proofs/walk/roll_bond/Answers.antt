use Rattle.std.proofs.Common.{◌∙◌, refl, arith}
use Rattle.pricing.proofs.WalkStates.{bonds-first, bond-rolled}
use Rattle.pricing.proofs.WalkTurns.{turn-steppable, turn-limited, turn-over, turn-next}
use Rattle.pricing.proofs.walk.roll_bond.Goals as goal

pub loop-row-init : goal.loop-row-init
loop-row-init c = (
  c.requires.1,
  bonds-first _ _ _ _ c.requires.0.tree c.requires.0.paid _ (λ k h. c.fill.ensures.clones k 0 (omega arith) refl ∙ c.flow_of.ensures),
)

pub bond_step-requires : goal.bond_step-requires
bond_step-requires c =
    let l = c.loop-row in (
      turn-steppable c.requires.0 l.row l.later.now (omega arith) l.invariant.1 _ c.flow_of-flow.ensures,
      turn-limited c.requires.0 l.row l.later.now (omega arith) l.invariant.1 _ c.flow_of-flow.ensures,
    )

pub returns-then-bond_step-gt-VALUE_LIMIT : goal.returns-then-bond_step-gt-VALUE_LIMIT
returns-then-bond_step-gt-VALUE_LIMIT c =
    let l = c.loop-row in
    turn-over c.requires.0 l.row l.later.now (omega arith) l.invariant.1 _ c.flow_of-flow.ensures _ _ c.bond_step.ensures
    c.args.last _ c.loop-row-test.true c.if-bond_step-gt-VALUE_LIMIT.true

pub loop-row-preserved : goal.loop-row-preserved
loop-row-preserved c =
    let l = c.loop-row in
    rw c.swap.ensures.x_after (
      omega arith,
      turn-next c.requires.0 l.row l.later.now (omega arith) l.invariant.1 _ c.flow_of-flow.ensures _ _ c.bond_step.ensures
          c.if-bond_step-gt-VALUE_LIMIT.false,
    )

pub returns : goal.returns
returns c =
    let l = c.loop-row in
    bond-rolled _ _ _ _ c.requires.0.tree c.requires.0.paid c.args.last l.row l.later.now (omega arith) l.invariant.1
