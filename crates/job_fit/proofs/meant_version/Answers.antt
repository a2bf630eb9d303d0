use Rattle.job_laws.proofs.FitLaws.{meant-none, meant-some}
use Rattle.job_fit.proofs.meant_version.Goals as goal

pub returns-then-version-eq0 : goal.returns-then-version-eq0
returns-then-version-eq0 c = meant-none _ c.if-version-eq0.true

pub returns-else-version-eq0 : goal.returns-else-version-eq0
returns-else-version-eq0 c = meant-some _ c.if-version-eq0.false
