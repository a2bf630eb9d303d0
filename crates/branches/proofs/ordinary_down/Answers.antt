use mathlib.Core.Path.{refl}
use native.Mathlib.Omega.{arith}
use Rattle.lattice.specs.Branching.{down_formula}
use Rattle.lattice.proofs.Formulas as formulas
use Rattle.branches.proofs.ordinary_down.Goals as goal

pub overflow_mul-result : goal.overflow_mul-result
overflow_mul-result c = omega (arith, formulas.square-within c.args.z c.requires)

pub overflow_mul-result-2 : goal.overflow_mul-result-2
overflow_mul-result-2 c = omega (arith, formulas.square-within c.args.z c.requires)

pub overflow_add-result : goal.overflow_add-result
overflow_add-result c = omega (arith, formulas.square-within c.args.z c.requires)

pub overflow_mul-result-3 : goal.overflow_mul-result-3
overflow_mul-result-3 c = omega (arith, formulas.square-within c.args.z c.requires)

pub overflow_add-result-2 : goal.overflow_add-result-2
overflow_add-result-2 c = omega (arith, formulas.square-within c.args.z c.requires)

pub returns : goal.returns
unfolding down_formula
returns c = refl
