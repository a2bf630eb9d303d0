use Rattle.std.proofs.Common.{arith}
use Rattle.lattice.proofs.TreeEntries.{row-value, row-ok}
use Rattle.state_price_bound.proofs.BoundLaws as laws
use Rattle.state_price_bound.proofs.next_row.Goals as goal

pub overflow_add-end : goal.overflow_add-end
overflow_add-end c = omega (arith, laws.reached-room c.requires.1 c.requires.0)

pub offset_bounds-discounts-start : goal.offset_bounds-discounts-start
offset_bounds-discounts-start c = omega (arith, laws.reached-room c.requires.1 c.requires.0)

pub slice_bounds-greatest_of-end : goal.slice_bounds-greatest_of-end
slice_bounds-greatest_of-end c = (laws.reached-room c.requires.1 c.requires.0).0

pub unwrap-next-requires : goal.unwrap-next-requires
unwrap-next-requires c =
    row-ok _ _ _ _ c.node_count.ensures c.requires.0.reversion-within-limit c.requires.0.row-within-limit

pub next_bound-bound-requires : goal.next_bound-bound-requires
next_bound-bound-requires c =
    laws.reached-sizes c.requires.1 c.requires.0 _ c.greatest_of-greatest.ensures _
    (row-value _ _ _ _ (rw c.unwrap-next.ensures at c.node_count.ensures) c.requires.0.reversion-within-limit c.requires.0.row-within-limit)

pub returns : goal.returns
returns c =
    laws.reached-next c.requires.1 c.requires.0 _ c.greatest_of-greatest.ensures _
    (row-value _ _ _ _ (rw c.unwrap-next.ensures at c.node_count.ensures) c.requires.0.reversion-within-limit c.requires.0.row-within-limit)
    _ c.next_bound-bound.ensures
