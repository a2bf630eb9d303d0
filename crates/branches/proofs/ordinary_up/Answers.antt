use mathlib.Core.Path.{sym, ap}
use native.Mathlib.Omega.{arith}
use Rattle.lattice.specs.Branching.{up_formula}
use lib.IntN.{nat_abs}
use Rattle.lattice.proofs.Formulas as formulas
use Rattle.branches.proofs.ordinary_up.Goals as goal

pub overflow_mul-result : goal.overflow_mul-result
overflow_mul-result c = omega (arith, formulas.square-within c.args.z c.requires)

pub overflow_mul-result-2 : goal.overflow_mul-result-2
overflow_mul-result-2 c = omega (arith, formulas.square-within c.args.z c.requires)

pub overflow_add-result : goal.overflow_add-result
overflow_add-result c = omega (arith, formulas.square-within c.args.z c.requires)

pub overflow_mul-result-3 : goal.overflow_mul-result-3
overflow_mul-result-3 c = omega (arith, formulas.square-within c.args.z c.requires)

pub overflow_sub-result : goal.overflow_sub-result
overflow_sub-result c = omega (arith, formulas.ordinary-up-whole c.args.z)

pub returns : goal.returns
unfolding up_formula
returns c = sym (ap nat_abs (formulas.pos-minus _ _ (formulas.ordinary-up-whole c.args.z)))
