use mathlib.Core.Path.{◌≡◌, sym}
use native.Mathlib.Omega.{arith}
use Rattle.factor.specs.Series.{term, series}
use Rattle.factor.proofs.Bounds.{series-bounds}
use Rattle.factor.proofs.FactorLaws.{side-ok}
use Rattle.continuous.proofs.Answers.{quotient-refused, series-of-node, quotient-found}
use Rattle.continuous.proofs.discount_of_quotient.Goals as goal
use Rattle.continuous.proofs.discount_of_quotient.Goals.{After-unwrap-series}

-- past the test the factor is the series
found : (c : After-unwrap-series) → c.unwrap-series.result ≡ series c.args.below (term c.args.quotient)
found c = series-of-node _ _ _ (rw c.unwrap-series.ensures at c.factor.ensures) (omega arith)

pub returns-then-quotient-gt-ONE : goal.returns-then-quotient-gt-ONE
returns-then-quotient-gt-ONE c = sym (quotient-refused _ _ (omega arith))

pub unwrap-series-requires : goal.unwrap-series-requires
unwrap-series-requires c = side-ok _ _ _ _ c.factor.ensures (omega arith)

pub fourth_power-requires : goal.fourth_power-requires
fourth_power-requires c = let s = c.args in omega (arith, found c, (series-bounds s.quotient s.below c.if-quotient-gt-ONE.false).1)

pub returns : goal.returns
returns c = quotient-found _ _ _ _ (found c.before) c.fourth_power.ensures c.if-quotient-gt-ONE.false
