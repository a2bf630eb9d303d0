use Rattle.std.proofs.Common.{arith}
use Rattle.shelf_laws.proofs.NameLaws.{There, tree-found}
use Rattle.shelf_prices.proofs.tree_and_discounts.Goals as goal
use Rattle.shelf_prices.proofs.tree_and_discounts.Goals.{Else-tree-eq0}

-- the tree is there
told : (c : Else-tree-eq0) → There c.args.shelf.slots c.args.name c.tree_of-tree.result c.tree_of-tree.ensures
told c = tree-found _ _ _ c.tree_of-tree.ensures c.if-tree-eq0.false

pub overflow_add-end : goal.overflow_add-end
overflow_add-end c = omega (arith, (told (goal.at.overflow_add-end c).Else-tree-eq0).fits)

pub offset_bounds-memory-start : goal.offset_bounds-memory-start
offset_bounds-memory-start c = omega (arith, (told (goal.at.offset_bounds-memory-start c).Else-tree-eq0).fits)

pub slice_bounds-result-end : goal.slice_bounds-result-end
slice_bounds-result-end c = omega (arith, (told (goal.at.slice_bounds-result-end c).Else-tree-eq0).fits)
