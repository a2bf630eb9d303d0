use native.Mathlib.Omega.{arith}
use Rattle.factor.proofs.FactorLaws.{sides-refused, sums-both, sums-fit, odd-within}
use Rattle.factor.proofs.both_sides.Goals as goal

pub returns-then-y-gt-ONE : goal.returns-then-y-gt-ONE
returns-then-y-gt-ONE c = sides-refused _ _ (omega arith)

pub overflow_add-result : goal.overflow_add-result
overflow_add-result c =
    let sums = c.series_sums-sums.ensures in
    omega (arith, sums-fit c.args.distance c.args.spacing (omega arith) c.if-y-gt-ONE.false sums.0 sums.1)

pub overflow_sub-result : goal.overflow_sub-result
overflow_sub-result c =
    let sums = c.series_sums-sums.ensures in
    odd-within c.args.distance c.args.spacing (omega arith) c.if-y-gt-ONE.false sums.0 sums.1

pub returns : goal.returns
returns c =
    let sums = c.series_sums-sums.ensures in
    sums-both c.args.distance c.args.spacing (omega arith) c.if-y-gt-ONE.false sums.0 sums.1
