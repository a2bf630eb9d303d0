use mathlib.Core.Path.{refl}
use native.Mathlib.Nat.{mul-le-mul}
use native.Mathlib.Omega.{arith}
use Prim.Native.Nat.{◌≤◌, ◌*◌}
use Rattle.arithmetic.specs.Rounding.{round_up}
use Rattle.state_price_bound.proofs.next_bound.Goals as goal
use Rattle.state_price_bound.proofs.next_bound.Goals.{Start}

-- at most 1.1 × 10^15
product : (c : Start) → c.args.greatest * c.args.bound ≤ 1100000000000000
product c = mul-le-mul {n₁ = c.args.greatest} {m₁ = c.args.bound} {n₂ = 1100000000} {m₂ = 1000000} (omega arith) (omega arith)

pub overflow_mul-result : goal.overflow_mul-result
overflow_mul-result c = omega (arith, product c)

pub overflow_add-result : goal.overflow_add-result
overflow_add-result c = omega (arith, product c)

pub overflow_add-result-2 : goal.overflow_add-result-2
overflow_add-result-2 c = omega (arith, product c)

pub overflow_add-result-3 : goal.overflow_add-result-3
overflow_add-result-3 c = omega (arith, product c)

pub returns : goal.returns
unfolding round_up
returns c = refl
