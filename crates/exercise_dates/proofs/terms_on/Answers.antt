use Rattle.exercise_dates.specs.Dates.{dated_terms}
use Rattle.exercise_dates.proofs.terms_on.Goals as goal

pub returns : goal.returns
unfolding dated_terms
returns c = rw c.last_date.ensures
