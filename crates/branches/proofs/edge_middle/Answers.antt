use mathlib.Core.Path.{sym, ap}
use native.Mathlib.Omega.{arith}
use lib.IntN.{nat_abs}
use Rattle.lattice.proofs.Formulas as formulas
use Rattle.branches.proofs.edge_middle.Goals as goal

pub overflow_mul-result : goal.overflow_mul-result
overflow_mul-result c = omega (arith, formulas.square-within c.args.z c.requires.1)

pub overflow_mul-result-2 : goal.overflow_mul-result-2
overflow_mul-result-2 c = omega (arith, formulas.square-within c.args.z c.requires.1)

pub overflow_mul-result-3 : goal.overflow_mul-result-3
overflow_mul-result-3 c = omega (arith, formulas.square-within c.args.z c.requires.1)

pub overflow_add-result : goal.overflow_add-result
overflow_add-result c = omega (arith, formulas.square-within c.args.z c.requires.1)

pub overflow_sub-result : goal.overflow_sub-result
overflow_sub-result c = omega (arith, formulas.edge-middle-whole c.args.z c.requires.0 c.requires.1)

pub returns : goal.returns
returns c = sym (ap nat_abs (formulas.upper-top _ c.requires.0 c.requires.1).middle-is)
