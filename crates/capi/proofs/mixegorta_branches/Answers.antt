use Rattle.std.proofs.Common.{◌∙◌}
use mir.Facts.{to_z-of_z}
use Rattle.capi.proofs.mixegorta_branches.Goals as goal

pub returns : goal.returns
returns c = c.from.ensures ∙ (rw (to_z-of_z c.ranges.node) at c.branch-reversion.ensures)
