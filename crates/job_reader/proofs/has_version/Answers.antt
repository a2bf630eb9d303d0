use mathlib.Core.Path.{◌∙◌}
use native.Mathlib.Omega.{arith}
use Rattle.job_record.specs.Form.{version_at}
use Rattle.job_record.specs.declared.Tags.TheVariants.{Only}
use Rattle.job_record.proofs.Answers.{passed, failed}
use Rattle.job_record.proofs.Forms.{field-whole, version-absent, version-by-number}
use Rattle.job_reader.proofs.has_version.Goals as goal

pub returns-then-not-field_at : goal.returns-then-not-field_at
returns-then-not-field_at c = version-absent _ (failed c.field_at.ensures c.if-not-field_at.true)

pub number-requires : goal.number-requires
number-requires c = omega (arith, field-whole _ version_at (Only 11) 1 (passed c.field_at.ensures c.if-not-field_at.false))

pub returns : goal.returns
returns c =
    c.is_version.ensures
    ∙ version-by-number _ (passed c.field_at.ensures c.if-not-field_at.false) _ c.number.ensures.0
