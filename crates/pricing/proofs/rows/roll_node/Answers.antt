use Prim.Native.Nat.{◌+◌, ◌*◌, ◌/◌, ◌≤◌}
use native.Mathlib.Omega.{arith}
use Rattle.arithmetic.specs.Row.{values}
use Rattle.tree.specs.Tree.{probability_total}
use Rattle.pricing.specs.inside.Rows.{branch_sum, branch_roll}
use Rattle.pricing.proofs.NodeLaws.{sum_fits, product-fits, rolled-nearest}
use Rattle.pricing.proofs.rows.roll_node.Goals as goal
use Rattle.pricing.proofs.rows.roll_node.Goals.{Start}

sum : (s : Start) → branch_sum s.args.branch (values s.args.later.now) ≤ 4800000000000000000
sum s = sum_fits _ _ _ s.requires.1 (s.requires.2 _ (omega arith)) (s.requires.2 _ (omega arith)) (s.requires.2 _ (omega arith)) s.requires.3

product : (s : Start) →
    (branch_sum s.args.branch (values s.args.later.now) + probability_total / 2) / probability_total * s.args.discount ≤ 8800000000000000000
product s = product-fits _ _ _ s.requires.1 (s.requires.2 _ (omega arith)) (s.requires.2 _ (omega arith)) (s.requires.2 _ (omega arith)) s.requires.3

pub overflow_mul-sum : goal.overflow_mul-sum
overflow_mul-sum c = omega (arith, sum (goal.at.overflow_mul-sum c).Start)

pub overflow_mul-sum-2 : goal.overflow_mul-sum-2
overflow_mul-sum-2 c = omega (arith, sum (goal.at.overflow_mul-sum-2 c).Start)

pub overflow_add-sum-3 : goal.overflow_add-sum-3
overflow_add-sum-3 c = omega (arith, sum (goal.at.overflow_add-sum-3 c).Start)

pub overflow_mul-sum-3 : goal.overflow_mul-sum-3
overflow_mul-sum-3 c = omega (arith, sum (goal.at.overflow_mul-sum-3 c).Start)

pub overflow_add-sum-4 : goal.overflow_add-sum-4
overflow_add-sum-4 c = omega (arith, sum (goal.at.overflow_add-sum-4 c).Start)

pub overflow_add-result : goal.overflow_add-result
overflow_add-result c = omega (arith, sum (goal.at.overflow_add-result c).Start)

pub overflow_mul-result : goal.overflow_mul-result
overflow_mul-result c = omega (arith, product (goal.at.overflow_mul-result c).Start)

pub overflow_add-result-2 : goal.overflow_add-result-2
overflow_add-result-2 c = omega (arith, product (goal.at.overflow_add-result-2 c).Start)

pub returns : goal.returns
unfolding branch_roll
returns c = (rolled-nearest _ _, omega (arith, product (goal.at.returns c).Start))
