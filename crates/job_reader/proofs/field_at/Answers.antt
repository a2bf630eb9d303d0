use borrow.Author.Tests.{lt-leb, le-leb}
use Rattle.job_record.specs.Form.{field_at}
use Rattle.job_record.proofs.Answers.{passed, failed}
use Rattle.job_reader.proofs.field_at.Goals as goal

pub returns-then-bytes-at : goal.returns-then-bytes-at
unfolding field_at
returns-then-bytes-at c = simp (lt-leb _ _ c.if-bytes-at.true)

pub returns-then-not-has_tag : goal.returns-then-not-has_tag
unfolding field_at
returns-then-not-has_tag c = simp (le-leb _ _ c.if-bytes-at.false, failed c.has_tag.ensures c.if-not-has_tag.true)

pub returns : goal.returns
unfolding field_at
returns c =
    let tagged = passed c.has_tag.ensures c.if-not-has_tag.false in
    simp (le-leb _ _ c.if-bytes-at.false, tagged, c.number.ensures.0)
