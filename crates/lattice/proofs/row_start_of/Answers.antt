use native.Mathlib.Omega.{arith}
use Rattle.lattice.proofs.EntryLaws as entry
use Rattle.lattice.proofs.row_start_of.Goals as goal

pub overflow_mul-result : goal.overflow_mul-result
overflow_mul-result c = omega (arith, entry.start_fits _ _ _ c.half_width_of-widest.ensures c.before.requires)

pub overflow_sub-result : goal.overflow_sub-result
overflow_sub-result c = omega (arith, entry.start_fits _ _ _ c.half_width_of-widest.ensures c.before.requires)

pub overflow_mul-result-2 : goal.overflow_mul-result-2
overflow_mul-result-2 c = omega (arith, entry.start_fits _ _ _ c.half_width_of-widest.ensures c.before.requires)

pub overflow_add-result : goal.overflow_add-result
overflow_add-result c = omega (arith, entry.start_fits _ _ _ c.half_width_of-widest.ensures c.before.requires)

pub overflow_mul-result-3 : goal.overflow_mul-result-3
overflow_mul-result-3 c = omega (arith, entry.start_fits _ _ _ c.half_width_of-widest.ensures c.before.requires)

pub overflow_add-result-2 : goal.overflow_add-result-2
overflow_add-result-2 c = omega (arith, entry.start_fits _ _ _ c.half_width_of-widest.ensures c.before.requires)

pub returns : goal.returns
returns c = rw c.half_width_of-widest.ensures (entry.start-form _ _)
