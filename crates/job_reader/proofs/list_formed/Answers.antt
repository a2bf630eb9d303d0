use borrow.Author.Tests.{lt-leb, le-leb}
use Rattle.job_record.specs.Form.{list_formed}
use Rattle.job_reader.proofs.list_formed.Goals as goal

pub returns-then-bytes-data_at : goal.returns-then-bytes-data_at
unfolding list_formed
returns-then-bytes-data_at c = simp (lt-leb _ _ c.if-bytes-data_at.true)

pub returns : goal.returns
unfolding list_formed
returns c = simp (le-leb _ _ c.if-bytes-data_at.false) c.field_at.ensures
