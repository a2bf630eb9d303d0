use Rattle.lattice.specs.Shape.{row_start}
use mathlib.Core.Path.{◌∙◌}
use Rattle.lattice.proofs.EntryLaws as entry
use Rattle.lattice.proofs.row_start.Goals as goal

pub returns : goal.returns
returns c = c.about_row.ensures ∙ entry.row-answer _ _ (row_start _) _ _ c.before.before.clipped.ensures c.before.row_start_of.ensures
