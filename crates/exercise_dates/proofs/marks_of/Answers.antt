use Rattle.std.proofs.Common.{refl, arith}
use Rattle.exercise_dates.proofs.DateLaws.{marking-start, marking-hit, marking-past, marking-all}
use Rattle.exercise_dates.proofs.marks_of.Goals as goal
use Rattle.exercise_dates.proofs.marks_of.Goals.{else-row-lt-MOST_ROWS, then-row-lt-MOST_ROWS}

pub loop-date-init : goal.loop-date-init
loop-date-init c = marking-start _

pub loop-date-preserved : goal.loop-date-preserved
loop-date-preserved c =
    elim c.if-row-lt-MOST_ROWS.branch [
      | then-row-lt-MOST_ROWS w ↦ rw w.marks-is (marking-hit _ _ _ c.loop-date.invariant _ refl w.if-row-lt-MOST_ROWS.true)
      | else-row-lt-MOST_ROWS w ↦ rw w.marks-is (marking-past _ _ _ c.loop-date.invariant _ refl w.if-row-lt-MOST_ROWS.false)
    ]

pub returns : goal.returns
returns c = marking-all _ _ _ c.loop-date.invariant (omega arith)
