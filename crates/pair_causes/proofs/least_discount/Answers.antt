use Rattle.std.proofs.Common.{refl, arith}
use Rattle.lent_tree.proofs.LentLaws.{accepted-lent}
use Rattle.price_bound.proofs.BoundLaws.{part_room}
use Rattle.pair_laws.proofs.RowParts.{least-part}
use Rattle.pair_causes.proofs.least_discount.Goals as goal

pub overflow_add-end : goal.overflow_add-end
overflow_add-end c = omega (arith, part_room _ _ _ _ (accepted-lent _ _ _ c.requires.0) c.requires.1 _ c.row_shape-shape.ensures)

pub offset_bounds-discounts-start : goal.offset_bounds-discounts-start
offset_bounds-discounts-start c = omega (arith, part_room _ _ _ _ (accepted-lent _ _ _ c.requires.0) c.requires.1 _ c.row_shape-shape.ensures)

pub slice_bounds-least_of-end : goal.slice_bounds-least_of-end
slice_bounds-least_of-end c = part_room _ _ _ _ (accepted-lent _ _ _ c.requires.0) c.requires.1 _ c.row_shape-shape.ensures

pub returns : goal.returns
returns c = least-part _ _ _ _ c.requires.0 c.requires.1 _ c.row_shape-shape.ensures _ _ refl c.least_of.ensures
