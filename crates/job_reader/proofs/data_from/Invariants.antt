use lib.ListN.{replicate}
use Rattle.arithmetic.proofs.RowLaws.{Filled}
use Rattle.job_record.specs.Form.{most_job_steps}
use Rattle.job_record.specs.Reader.{data_of}
use Rattle.job_reader.proofs.data_from.Given as goal

abbrev pub invariant-loop-i : goal.invariant-loop-i
invariant-loop-i l = Filled (replicate most_job_steps 0) l.numbers (data_of l.bytes l.from l.width) l.i
