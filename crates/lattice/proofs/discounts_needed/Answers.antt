use Rattle.lattice.specs.Shape.{discounts_needed}
use Prim.Native.Nat.{ℕ}
use mathlib.Core.Path.{◌∙◌}
use Rattle.lattice.proofs.EntryLaws as entry
use Rattle.lattice.proofs.discounts_needed.Goals as goal

pub returns : goal.returns
unfolding discounts_needed
returns c =
    let needed : ℕ → ℕ = λ n. discounts_needed n c.before.before.before.args.reversion in
    c.about_tree.ensures ∙ entry.tree-answer _ _ needed _ _ c.before.before.clipped.ensures c.before.row_start_of.ensures
