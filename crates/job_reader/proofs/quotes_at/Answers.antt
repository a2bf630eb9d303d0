use mathlib.Core.Path.{sym, ◌∙◌}
use native.Mathlib.Omega.{arith}
use Rattle.job_record.proofs.Forms.{quotes-after, quotes-there}
use Rattle.job_reader.proofs.quotes_at.Goals as goal

pub returns-then-has_version : goal.returns-then-has_version
returns-then-has_version c = (sym (quotes-after _ (sym c.has_version.ensures ∙ c.if-has_version.true)), omega arith)

pub returns : goal.returns
returns c = (sym (quotes-there _ (sym c.has_version.ensures ∙ c.if-has_version.false)), omega arith)
