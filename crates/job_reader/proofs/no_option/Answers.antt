use Rattle.job_reader.proofs.no_option.Goals as goal

pub returns : goal.returns
returns c = rw c.no_dates-dates.ensures
