use lib.ListN.{replicate}
use Rattle.arithmetic.proofs.RowLaws.{Filled}
use Rattle.job_record.specs.Form.{most_job_steps}
use Rattle.job_record.specs.Reader.{tag_of}
use Rattle.job_reader.proofs.tags_from.Given as goal

abbrev pub invariant-loop-i : goal.invariant-loop-i
invariant-loop-i l = Filled (replicate most_job_steps 0) l.tags (tag_of l.bytes l.from l.width) l.i
