use native.Mathlib.Omega.{arith}
use Rattle.pair_laws.proofs.Squares.{discounts-fit, product-fits, discounted-is}
use Rattle.pair_pricing.proofs.squares.discounted.Goals as goal

pub overflow_mul-result : goal.overflow_mul-result
overflow_mul-result c = omega (arith, discounts-fit _ _ _ c.requires.0 c.requires.1 c.requires.2)

pub overflow_mul-result-2 : goal.overflow_mul-result-2
overflow_mul-result-2 c = omega (arith, product-fits _ _ _ c.requires.0 c.requires.1 c.requires.2)

pub overflow_add-result : goal.overflow_add-result
overflow_add-result c = omega (arith, product-fits _ _ _ c.requires.0 c.requires.1 c.requires.2)

pub returns : goal.returns
returns c = discounted-is _ _ _ c.requires.0 c.requires.1 c.requires.2
