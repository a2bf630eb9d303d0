use Rattle.std.proofs.Common.{refl, arith}
use Rattle.price_bound.proofs.BoundLaws.{part_room, part-ranged}
use Rattle.price_bound.proofs.row_range.Goals as goal

pub overflow_add-end : goal.overflow_add-end
overflow_add-end c = omega (arith, part_room _ _ _ _ c.requires.0 c.requires.1 _ c.row_shape-shape.ensures)

pub offset_bounds-discounts-start : goal.offset_bounds-discounts-start
offset_bounds-discounts-start c = omega (arith, part_room _ _ _ _ c.requires.0 c.requires.1 _ c.row_shape-shape.ensures)

pub slice_bounds-range_of-end : goal.slice_bounds-range_of-end
slice_bounds-range_of-end c = part_room _ _ _ _ c.requires.0 c.requires.1 _ c.row_shape-shape.ensures

pub returns : goal.returns
returns c = part-ranged _ _ _ _ c.requires.0 c.requires.1 _ c.row_shape-shape.ensures _ refl _ c.range_of.ensures
