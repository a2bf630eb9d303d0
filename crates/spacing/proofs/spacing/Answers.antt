use mathlib.Core.Path.{◌∙◌}
use Rattle.spacing.proofs.VersionLaws.{answer-first}
use Rattle.spacing.proofs.spacing.Goals as goal

pub returns : goal.returns
returns c = c.version_spacing.ensures ∙ answer-first _ _
