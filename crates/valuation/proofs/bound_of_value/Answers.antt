use Prim.Native.Nat.{◌*◌, ◌≤◌}
use native.Mathlib.Nat.{mul-le-mul}
use native.Mathlib.Omega.{arith}
use Rattle.arithmetic.specs.Rounding.{round_up}
use Rattle.valuation_laws.specs.Valuation.{valuation_bound}
use Rattle.valuation.proofs.bound_of_value.Goals as goal
use Rattle.valuation.proofs.bound_of_value.Goals.{Start}

small : (c : Start) → c.args.greatest * c.args.bound ≤ 8000000000000000
small c = omega (arith, mul-le-mul {n₁ = c.args.greatest} {m₁ = c.args.bound} {n₂ = 8000000000} {m₂ = 1000000} c.requires.0 c.requires.1)

pub overflow_mul-result : goal.overflow_mul-result
overflow_mul-result c = omega (arith, small c)

pub overflow_add-result : goal.overflow_add-result
overflow_add-result c = omega (arith, small c)

pub overflow_add-result-2 : goal.overflow_add-result-2
overflow_add-result-2 c = omega (arith, small c)

pub returns : goal.returns
unfolding valuation_bound round_up
returns c = omega arith
