use Rattle.job_record.specs.Reader.{list_option_at}
use Rattle.job_reader.proofs.list_option_at.Goals as goal

pub returns : goal.returns
unfolding list_option_at
returns c = rw (c.dates_from-dates.ensures, c.number.ensures.0, c.number-2.ensures.0)
