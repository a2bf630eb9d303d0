use mathlib.Core.Path.{sym, ◌∙◌}
use native.Mathlib.Omega.{arith}
use Rattle.job_record.specs.Form.{version_at}
use Rattle.job_record.specs.declared.Tags.TheVariants.{Only}
use Rattle.job_record.proofs.Answers.{passed, failed}
use Rattle.job_record.proofs.Forms.{field-whole, version-field, version-read, version-missing}
use Rattle.job_reader.proofs.version_of.Goals as goal

pub returns-then-not-has_version : goal.returns-then-not-has_version
returns-then-not-has_version c = sym (version-missing _ (failed c.has_version.ensures c.if-not-has_version.true))

pub number-requires : goal.number-requires
number-requires c =
    omega (arith, field-whole _ version_at (Only 11) 1 (version-field _ (passed c.has_version.ensures c.if-not-has_version.false)))

pub returns : goal.returns
returns c =
    c.number.ensures.0 ∙ sym (version-read _ (passed c.has_version.ensures c.if-not-has_version.false))
