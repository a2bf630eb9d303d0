use mathlib.Core.Path.{refl}
use native.Mathlib.Nat.{mul-le-mul}
use native.Mathlib.Omega.{arith}
use Rattle.arithmetic.specs.Rounding.{round_down}
use Rattle.factor.proofs.next_term.Goals as goal

pub overflow_mul-result : goal.overflow_mul-result
overflow_mul-result c = omega (arith, mul-le-mul c.requires.0 c.requires.1)

pub returns : goal.returns
unfolding round_down
returns c = refl
