use Rattle.std.proofs.Common.{arith}
use Rattle.pricing.proofs.StripTurns.{last-room, last-short, alone-start, alone-before, alone-ready, turn-alone-over, turn-alone-next}
use Rattle.pricing.proofs.StripTurns.{alone-done, beside-answer}
use Rattle.pricing.proofs.walk.roll_strike.Goals as goal

pub part-requires : goal.part-requires
part-requires c = last-room c.requires.0 _ _ c.requires.1 c.requires.2 _ c.requires.3 c.requires.4 _ c.row_shape-shape.ensures

pub first_row-requires : goal.first_row-requires
first_row-requires c =
    omega (
      arith,
      last-short c.requires.0 _ _ c.requires.1 c.requires.2 _ c.requires.3 c.requires.4 _ c.row_shape-shape.ensures _ c.part.ensures,
    )

pub loop-row-init : goal.loop-row-init
loop-row-init c =
    alone-start c.requires.0 _ _ c.requires.1 c.requires.2 _ c.requires.3 c.requires.4 _ c.row_shape-shape.ensures _ c.part.ensures _
    c.first_row.ensures

pub option_step_at-right-requires : goal.option_step_at-right-requires
option_step_at-right-requires c =
    let l = c.loop-row in
    alone-before c.requires.0 _ _ c.requires.1 c.requires.2 _ c.requires.3 c.requires.4 l.row l.later.now c.loop-row-test.true l.invariant

pub strike_step-requires : goal.strike_step-requires
strike_step-requires c =
    let l = c.loop-row in
    let asks =
    alone-ready c.requires.0 _ _ c.requires.1 c.requires.2 _ c.requires.3 c.requires.4 l.row l.later.now c.loop-row-test.true l.invariant
    _ c.option_step_at-right.ensures in
    (asks.0, asks.1, c.requires.4)

pub returns-then-strike_step-gt-VALUE_LIMIT : goal.returns-then-strike_step-gt-VALUE_LIMIT
returns-then-strike_step-gt-VALUE_LIMIT c =
    let l = c.loop-row in
    beside-answer c.past_limit.result c.past_limit.ensures
    (turn-alone-over c.requires.0 _ _ c.requires.1 c.requires.2 _ c.requires.3 c.requires.4 l.row l.later.now c.loop-row-test.true l.invariant
    _ c.option_step_at-right.ensures _ _ c.strike_step.ensures c.if-strike_step-gt-VALUE_LIMIT.true)

pub loop-row-preserved : goal.loop-row-preserved
loop-row-preserved c =
    let l = c.loop-row in
    rw c.swap.ensures.x_after
    (turn-alone-next c.requires.0 _ _ c.requires.1 c.requires.2 _ c.requires.3 c.requires.4 l.row l.later.now c.loop-row-test.true l.invariant
    _ c.option_step_at-right.ensures _ _ c.strike_step.ensures c.if-strike_step-gt-VALUE_LIMIT.false)

pub returns : goal.returns
returns c =
    let l = c.loop-row in
    beside-answer c.first_value.result c.first_value.ensures
    (alone-done c.requires.0 _ _ c.requires.1 c.requires.2 _ c.requires.3 c.requires.4 l.row l.later.now (omega arith) l.invariant)
