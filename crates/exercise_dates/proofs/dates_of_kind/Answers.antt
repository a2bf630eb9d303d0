use Rattle.exercise_dates.proofs.DateLaws.{no-list, alone-list, every-list}
use Rattle.exercise_dates.proofs.dates_of_kind.Goals as goal

pub returns-then-expiry-gt-MOST_STEPS : goal.returns-then-expiry-gt-MOST_STEPS
returns-then-expiry-gt-MOST_STEPS c = no-list _ _ c.if-expiry-gt-MOST_STEPS.true

pub returns-then-kind-lt3 : goal.returns-then-kind-lt3
returns-then-kind-lt3 c = alone-list _ _ c.if-expiry-gt-MOST_STEPS.false c.if-kind-lt3.true

pub returns : goal.returns
returns c = every-list _ _ c.if-expiry-gt-MOST_STEPS.false _ c.if-kind-lt3.false c.dates_to.ensures
