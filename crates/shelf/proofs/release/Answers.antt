use mathlib.Core.Path.{sym, ◌∙◌}
use native.Mathlib.Omega.{arith}
use Rattle.shelf_laws.proofs.NameLaws.{none_found, There, tree-found}
use Rattle.shelf_laws.proofs.EntryLaws.{release-slots-left, release-memory-left, release-slots, release-memory}
use borrow.Author.Rules.{rules}
use Rattle.shelf.proofs.release.Goals as goal
use Rattle.shelf.proofs.release.Goals.{Else-tree-eq0}

-- the tree that is released
told : (c : Else-tree-eq0) →
    let a = c.args in
    let tree = c.tree_of-tree in
    There a.shelf.slots a.name tree.result tree.ensures
told c = tree-found _ _ _ c.tree_of-tree.ensures (search rules)

pub returns-then-tree-eq0 : goal.returns-then-tree-eq0
returns-then-tree-eq0 c =
    let none = none_found _ _ _ c.tree_of-tree.ensures (search rules) in
    let after = c.refused.ensures in
    record { number = after.0 ∙ sym none; slots = after.1 ∙ release-slots-left _ _ none; memory = release-memory-left _ _ _ none }

pub close_part-requires : goal.close_part-requires
close_part-requires c = omega (arith, (told (goal.at.close_part-requires c).Else-tree-eq0).fits)

pub overflow_sub-name : goal.overflow_sub-name
overflow_sub-name c = omega (arith, (told (goal.at.overflow_sub-name c).Else-tree-eq0).name-known.low)

pub replaced-requires : goal.replaced-requires
replaced-requires c =
    let t = told (goal.at.replaced-requires c).Else-tree-eq0 in
    omega (arith, t.name-known.low, t.name-known.high)

pub returns : goal.returns
returns c =
    let t = told (goal.at.returns c).Else-tree-eq0 in
    let after = c.replaced.ensures in
    let memory = c.close_part.ensures in
    record {
      number = after.0 ∙ sym t.cause;
      slots = release-slots _ _ _ _ t _ _ c.empty_slot-slot.ensures after.1;
      memory = release-memory _ _ _ _ t _ _ memory;
    }
