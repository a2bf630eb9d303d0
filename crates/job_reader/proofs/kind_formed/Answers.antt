use Rattle.job_record.specs.Form.{kind_formed}
use Rattle.job_record.proofs.Answers.{passed, failed}
use Rattle.job_reader.proofs.kind_formed.Goals as goal

pub returns-then-not-field_at : goal.returns-then-not-field_at
unfolding kind_formed
returns-then-not-field_at c = simp (failed c.field_at.ensures c.if-not-field_at.true)

pub returns : goal.returns
unfolding kind_formed
returns c = simp (passed c.field_at.ensures c.if-not-field_at.false)
