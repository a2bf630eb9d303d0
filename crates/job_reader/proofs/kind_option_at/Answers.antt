use Rattle.job_record.specs.Reader.{kind_option_at}
use Rattle.job_reader.proofs.kind_option_at.Goals as goal

pub returns : goal.returns
unfolding kind_option_at
returns c =
    rw (
      c.no_dates-dates.ensures,
      c.number.ensures.0,
      c.number-2.ensures.0,
      c.number-3.ensures.0,
    )
