use Rattle.job_record.specs.Reader.{no_job}
use Rattle.job_reader.proofs.no_job.Goals as goal

pub returns : goal.returns
unfolding no_job
returns c = rw c.no_option-option.ensures
