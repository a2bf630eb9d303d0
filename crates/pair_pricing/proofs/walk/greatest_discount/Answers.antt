use mathlib.Core.Path.{refl}
use Prim.Native.Nat.{◌+◌, ◌≤◌}
use native.Mathlib.Omega.{arith}
use lib.ListN.{length}
use Rattle.lent_tree.proofs.LentLaws.{accepted-lent}
use Rattle.price_bound.proofs.BoundLaws.{part_room, greatest-part}
use Rattle.pair_pricing.proofs.walk.greatest_discount.Goals as goal
use Rattle.pair_pricing.proofs.walk.greatest_discount.Goals.{After-row_shape-shape}

-- the row's part is within the discounts
room : (c : After-row_shape-shape) →
    c.row_shape-shape.result.start + c.row_shape-shape.result.count ≤ length c.args.discounts.now
room c =
    part_room _ _ _ _ (accepted-lent _ _ _ c.requires.0) c.requires.1 _ c.row_shape-shape.ensures

pub overflow_add-end : goal.overflow_add-end
overflow_add-end c = omega (arith, room (goal.at.overflow_add-end c).After-row_shape-shape)

pub offset_bounds-discounts-start : goal.offset_bounds-discounts-start
offset_bounds-discounts-start c = omega (arith, room (goal.at.offset_bounds-discounts-start c).After-row_shape-shape)

pub slice_bounds-greatest_of-end : goal.slice_bounds-greatest_of-end
slice_bounds-greatest_of-end c = room (goal.at.slice_bounds-greatest_of-end c).After-row_shape-shape

pub returns : goal.returns
returns c =
    greatest-part _ _ _ _ (accepted-lent _ _ _ c.requires.0) c.requires.1 _ c.row_shape-shape.ensures _ _ refl c.greatest_of.ensures
