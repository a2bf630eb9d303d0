use mathlib.Core.Path.{refl}
use Rattle.report_laws.specs.Reports.{empty_report}
use Rattle.report_laws.proofs.empty.Goals as goal

pub returns : goal.returns
unfolding empty_report
returns c = refl
