use native.Mathlib.Omega.{arith}
use Rattle.pair_laws.proofs.CauseLaws.{row-discounted}
use Rattle.pair_laws.proofs.RowParts.{least_fits}
use Rattle.pair_causes.proofs.is_discounted.Goals as goal

pub overflow_mul-result : goal.overflow_mul-result
overflow_mul-result c = omega (arith, least_fits _ _ _ _ c.least_discount-rate.ensures c.least_discount-spread.ensures)

pub returns : goal.returns
returns c =
    row-discounted c.requires.0.rate-tree c.requires.0.spread-tree c.requires.1 c.least_discount-rate.ensures
    c.least_discount-spread.ensures
