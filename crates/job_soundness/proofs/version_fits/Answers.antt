use mathlib.Core.Path.{◌∙◌}
use borrow.Author.Tests.{eq-eqb, ne_eqb}
use Rattle.job_soundness.proofs.version_fits.Goals as goal

pub returns-then-version-eq0 : goal.returns-then-version-eq0
returns-then-version-eq0 c = simp (eq-eqb _ 0 c.if-version-eq0.true)

pub returns : goal.returns
returns c = c.is_version.ensures ∙ simp (ne_eqb _ 0 c.if-version-eq0.false)
