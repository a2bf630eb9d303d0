use Rattle.lattice.specs.Shape.{row_start, state_prices_needed}
use Prim.Native.Nat.{ℕ}
use native.Mathlib.Numerals.{add-one}
use mathlib.Core.Path.{ap, ◌∙◌}
use Rattle.lattice.proofs.EntryLaws as entry
use Rattle.lattice.proofs.state_prices_needed.Goals as goal

pub returns : goal.returns
unfolding state_prices_needed
returns c =
    let needed : ℕ → ℕ = λ n. state_prices_needed n c.before.before.before.args.reversion in
    let start = c.before.row_start_of.ensures ∙ ap (row_start _) (add-one _) in
    c.about_tree.ensures ∙ entry.tree-answer _ _ needed _ _ c.before.before.clipped.ensures start
