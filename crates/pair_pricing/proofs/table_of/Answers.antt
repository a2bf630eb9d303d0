use native.Mathlib.Omega.{arith}
use lib.ListN.{length-take}
use Rattle.lattice.proofs.TreeEntries.{row-ok}
use Rattle.pricing.proofs.EntryLaws.{widest_fits, table-ok, table_filled}
use Rattle.pair_pricing.proofs.table_of.Goals as goal

pub unwrap-widest-requires : goal.unwrap-widest-requires
unwrap-widest-requires c = row-ok _ _ _ _ c.half_width.ensures c.requires.1 c.requires.0

pub overflow_mul-nodes : goal.overflow_mul-nodes
overflow_mul-nodes c = omega (arith, widest_fits _ _ c.requires.0 c.requires.1 _ (rw c.unwrap-widest.ensures at c.half_width.ensures))

pub overflow_add-nodes : goal.overflow_add-nodes
overflow_add-nodes c = omega (arith, widest_fits _ _ c.requires.0 c.requires.1 _ (rw c.unwrap-widest.ensures at c.half_width.ensures))

pub slice_bounds-table-end : goal.slice_bounds-table-end
slice_bounds-table-end c =
    omega (arith, widest_fits _ _ c.requires.0 c.requires.1 _ (rw c.unwrap-widest.ensures at c.half_width.ensures), c.empty_table-table.ensures)

pub slice_bounds-down_probabilities-end : goal.slice_bounds-down_probabilities-end
slice_bounds-down_probabilities-end c =
    simp length-take
    (omega (arith, widest_fits _ _ c.requires.0 c.requires.1 _ (rw c.unwrap-widest.ensures at c.half_width.ensures), c.empty_table-table.ensures))

pub unwrap-requires : goal.unwrap-requires
unwrap-requires c =
    table-ok _ _ c.requires.0 c.requires.1 _ _ c.empty_table-table.ensures (rw c.unwrap-widest.ensures at c.half_width.ensures)
    c.down_probabilities.result c.down_probabilities.ensures.number

pub returns : goal.returns
returns c =
    table_filled _ _ c.requires.0 c.requires.1 _ _ _ c.empty_table-table.ensures (rw c.unwrap-widest.ensures at c.half_width.ensures) c.down_probabilities.ensures.memory
