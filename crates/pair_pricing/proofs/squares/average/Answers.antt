use Prim.Native.Nat.{◌+◌, ◌*◌, ◌≤◌}
use native.Mathlib.Omega.{arith}
use Rattle.arithmetic.specs.Row.{values}
use Rattle.row_branches.specs.inside.Transitions.{branch_up, branch_middle, branch_down}
use Rattle.pair_laws.proofs.Squares.{sum_fits, average-is}
use Rattle.pair_pricing.proofs.squares.average.Goals as goal
use Rattle.pair_pricing.proofs.squares.average.Goals.{Start}

sum : (s : Start) →
    branch_up s.args.branch * values s.args.xs.now (s.args.from + 2 * s.args.stride)
    + branch_middle s.args.branch * values s.args.xs.now (s.args.from + s.args.stride)
    + branch_down s.args.branch * values s.args.xs.now s.args.from ≤ 4800000000000000000
sum s = sum_fits _ _ _ s.requires.0 s.requires.4 s.requires.3 s.requires.2

pub overflow_mul-sum-2 : goal.overflow_mul-sum-2
overflow_mul-sum-2 c = omega (arith, sum (goal.at.overflow_mul-sum-2 c).Start)

pub overflow_mul-sum-3 : goal.overflow_mul-sum-3
overflow_mul-sum-3 c = omega (arith, sum (goal.at.overflow_mul-sum-3 c).Start)

pub overflow_add-sum-3 : goal.overflow_add-sum-3
overflow_add-sum-3 c = omega (arith, sum (goal.at.overflow_add-sum-3 c).Start)

pub overflow_mul-sum-4 : goal.overflow_mul-sum-4
overflow_mul-sum-4 c = omega (arith, sum (goal.at.overflow_mul-sum-4 c).Start)

pub overflow_add-sum-4 : goal.overflow_add-sum-4
overflow_add-sum-4 c = omega (arith, sum (goal.at.overflow_add-sum-4 c).Start)

pub overflow_add-result : goal.overflow_add-result
overflow_add-result c = omega (arith, sum (goal.at.overflow_add-result c).Start)

pub returns : goal.returns
returns c = average-is _ _ _ c.requires.0 c.requires.4 c.requires.3 c.requires.2
