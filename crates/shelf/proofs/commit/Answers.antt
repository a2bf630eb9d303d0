use mathlib.Core.Path.{refl, ◌∙◌}
use native.Mathlib.Omega.{arith}
use Rattle.arithmetic.proofs.Implied.{implied}
use Rattle.arithmetic.proofs.RefusalLaws.{refusal-some}
use Rattle.shelf_laws.proofs.NameLaws.{There}
use Rattle.shelf_laws.proofs.EntryLaws.{not-awaiting, awaiting, commit-15, memory-15, slots-left, commit-number, commit-memory, commit-slots}
use borrow.Author.Rules.{rules}
use Rattle.shelf.proofs.commit.Goals as goal
use Rattle.shelf.proofs.commit.Goals.{Else-tree-ne1}

-- the tree that awaits its commit
told : (c : Else-tree-ne1) →
    let a = c.args in
    let tree = c.tree_of-tree in
    There a.shelf.slots a.name tree.result tree.ensures
told c = (awaiting _ _ _ c.tree_of-tree.ensures (omega arith)).0

pub returns-then-tree-ne1 : goal.returns-then-tree-ne1
returns-then-tree-ne1 c =
    let none = not-awaiting _ _ _ c.tree_of-tree.ensures c.if-tree-ne1.true in
    let number = commit-15 implied none in
    let after = c.refused.ensures in
    record { number = after.0 ∙ number; slots = after.1 ∙ slots-left implied _ number (λ z. omega arith); memory = memory-15 implied none }

pub fit_part-fitted-requires : goal.fit_part-fitted-requires
fit_part-fitted-requires c = omega (arith, (told (goal.at.fit_part-fitted-requires c).Else-tree-ne1).fits)

pub returns-in-Err : goal.returns-in-Err
returns-in-Err c =
    let tree = c.tree_of-tree.ensures in
    let fit = rw c.in-Err.is at c.fit_part-fitted.ensures in
    let after = c.refused-in-Err.ensures in
    let number = commit-number implied tree (search rules) fit.number in
    record {
      number = after.0 ∙ number;
      slots = after.1 ∙ slots-left implied _ number (refusal-some _);
      memory = commit-memory implied tree (search rules) number _ fit.memory;
    }

pub fitted_slot-slot-requires : goal.fitted_slot-slot-requires
fitted_slot-slot-requires c = omega (arith, (told (goal.at.fitted_slot-slot-requires c).Else-tree-ne1).fits)

pub overflow_sub-name : goal.overflow_sub-name
overflow_sub-name c = omega (arith, (told (goal.at.overflow_sub-name c).Else-tree-ne1).name-known.low)

pub replaced-requires : goal.replaced-requires
replaced-requires c =
    let t = told (goal.at.replaced-requires c).Else-tree-ne1 in
    omega (arith, t.name-known.low, t.name-known.high)

pub returns : goal.returns
returns c =
    let m = c.args.memory.now in
    let tree = c.tree_of-tree.ensures in
    let fit = rw c.in_default.is at c.fit_part-fitted.ensures in
    let slot = c.fitted_slot-slot.ensures in
    let after = c.replaced.ensures in
    let number = commit-number implied tree (search rules) fit.number in
    record {
      number = after.0 ∙ number;
      slots = commit-slots implied tree (search rules) number refl m (search rules) fit.memory slot after.1;
      memory = commit-memory implied tree (search rules) number m fit.memory;
    }
