use Rattle.exercise_dates.proofs.DateLaws.{Marking}
use Rattle.exercise_dates.proofs.marks_of.Given as goal

abbrev pub invariant-loop-date : goal.invariant-loop-date
invariant-loop-date l = Marking l.dates l.marks l.date-index
