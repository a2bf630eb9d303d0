use Rattle.std.proofs.Common.{arith}
use Rattle.pricing.proofs.WalkStates.{rolled-answer}
use Rattle.pricing.proofs.WalkTurns.{both_first, both-done, both-before, turn-both-ready, turn-both-over, turn-both-next}
use Rattle.pricing.proofs.walk.roll_option.Goals as goal

pub exercise_step-requires : goal.exercise_step-requires
exercise_step-requires c =
    let ready = c.requires.0 in
    let inside = c.requires.1.last-inside in
    (ready.tree.limits.reversion-within-limit, omega (arith, ready.tree.limits.steps-within-limit), omega (arith, ready.paid.count))

pub loop-row-init : goal.loop-row-init
loop-row-init c = both_first c.requires.0 c.args.terms _ c.requires.1 _ _ c.requires.2 c.exercise_step.ensures

pub option_step_at-right-requires : goal.option_step_at-right-requires
option_step_at-right-requires c =
    let l = c.loop-row in
    both-before c.requires.0 _ _ c.requires.1 l.row l.bonds.now l.options.now c.loop-row-test.true l.invariant

pub option_step-greatest-requires : goal.option_step-greatest-requires
option_step-greatest-requires c =
    let l = c.loop-row in
    turn-both-ready c.requires.0 _ _ c.requires.1 l.row l.bonds.now l.options.now c.loop-row-test.true l.invariant _
    c.option_step_at-right.ensures

pub returns-then-greatest-gt-VALUE_LIMIT : goal.returns-then-greatest-gt-VALUE_LIMIT
returns-then-greatest-gt-VALUE_LIMIT c =
    let l = c.loop-row in
    rolled-answer c.over.result c.over.ensures
    (turn-both-over c.requires.0 _ _ c.requires.1 l.row l.bonds.now l.options.now c.loop-row-test.true l.invariant _
    c.option_step_at-right.ensures _ _ _ c.option_step-greatest.ensures c.if-greatest-gt-VALUE_LIMIT.true)

pub loop-row-preserved : goal.loop-row-preserved
loop-row-preserved c =
    let l = c.loop-row in
    rw (c.swap.ensures.x_after, c.swap-in-loop-row.ensures.x_after)
    (turn-both-next c.requires.0 _ _ c.requires.1 l.row l.bonds.now l.options.now c.loop-row-test.true l.invariant _
    c.option_step_at-right.ensures _ _ _ c.option_step-greatest.ensures c.if-greatest-gt-VALUE_LIMIT.false)

pub returns : goal.returns
returns c =
    let l = c.loop-row in
    rolled-answer c.at_root.result c.at_root.ensures
    (both-done c.requires.0 _ _ c.requires.1 l.row l.bonds.now l.options.now (omega arith) l.invariant)
