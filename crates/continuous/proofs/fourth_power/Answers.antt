use native.Mathlib.Omega.{arith}
use Rattle.continuous.proofs.Squares.{Parts, parts, half-word-fits, fourth-at-once, fourth-by-parts}
use Rattle.continuous.proofs.fourth_power.Goals as goal
use Rattle.continuous.proofs.fourth_power.Goals.{Else-square-le-HALF_WORD, Start}

-- every product of the parts fits
fit : (c : Start) → Parts c.args.series
fit c = parts c.args.series c.requires

fit-past : (c : Else-square-le-HALF_WORD) → Parts c.args.series
fit-past c = fit c.before

pub overflow_mul-square : goal.overflow_mul-square
overflow_mul-square c = omega (arith, (fit c).first)

pub overflow_mul-result : goal.overflow_mul-result
overflow_mul-result c = record { fits = half-word-fits _ c.if-square-le-HALF_WORD.true }

pub returns-then-square-le-HALF_WORD : goal.returns-then-square-le-HALF_WORD
returns-then-square-le-HALF_WORD c = fourth-at-once c.args.series

pub overflow_mul-result-2 : goal.overflow_mul-result-2
overflow_mul-result-2 c = omega (arith, (fit-past c).whole)

pub overflow_mul-result-3 : goal.overflow_mul-result-3
overflow_mul-result-3 c = omega (arith, (fit-past c).whole)

pub overflow_mul-result-4 : goal.overflow_mul-result-4
overflow_mul-result-4 c = omega (arith, (fit-past c).first)

pub overflow_mul-result-5 : goal.overflow_mul-result-5
overflow_mul-result-5 c = omega (arith, (fit-past c).mixed)

pub overflow_add-result : goal.overflow_add-result
overflow_add-result c = omega (arith, (fit-past c).whole, (fit-past c).mixed)

pub overflow_mul-result-6 : goal.overflow_mul-result-6
overflow_mul-result-6 c = omega (arith, (fit-past c).rest)

pub overflow_add-result-2 : goal.overflow_add-result-2
overflow_add-result-2 c = omega (arith, (fit-past c).whole, (fit-past c).mixed, (fit-past c).rest)

pub returns : goal.returns
returns c = fourth-by-parts c.args.series
