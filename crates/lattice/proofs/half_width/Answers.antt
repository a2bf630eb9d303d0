use Rattle.lattice.specs.Shape.{half_width}
use mathlib.Core.Path.{◌∙◌}
use Rattle.lattice.proofs.EntryLaws as entry
use Rattle.lattice.proofs.half_width.Goals as goal

pub returns : goal.returns
returns c = c.about_row.ensures ∙ entry.row-answer _ _ (half_width _) _ _ c.before.before.clipped.ensures c.before.half_width_of.ensures
