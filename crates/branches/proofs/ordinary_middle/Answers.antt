use mathlib.Core.Path.{sym, ap}
use native.Mathlib.Omega.{arith}
use lib.IntN.{nat_abs}
use Rattle.lattice.proofs.Formulas as formulas
use Rattle.branches.proofs.ordinary_middle.Goals as goal

pub overflow_mul-result : goal.overflow_mul-result
overflow_mul-result c = omega (arith, formulas.square-within c.args.z (omega arith))

pub overflow_mul-result-2 : goal.overflow_mul-result-2
overflow_mul-result-2 c = omega (arith, formulas.square-within c.args.z (omega arith))

pub overflow_sub-result : goal.overflow_sub-result
overflow_sub-result c = omega (arith, formulas.ordinary-middle-whole c.args.z c.requires)

pub returns : goal.returns
returns c = sym (ap nat_abs (formulas.upper-ordinary _ c.requires).middle-is)
