use Rattle.std.proofs.Common.{arith}
use Rattle.arithmetic.proofs.RowLaws.{filled-start, filled_next, filled-all}
use Rattle.exercise_dates.specs.inside.Dates.{dates_to}
use Rattle.exercise_dates.proofs.dates_to.Goals as goal

pub loop-row-init : goal.loop-row-init
loop-row-init c = filled-start _ _

pub loop-row-preserved : goal.loop-row-preserved
loop-row-preserved c = filled_next c.loop-row.invariant (omega arith) c.row_to.ensures

pub returns : goal.returns
unfolding dates_to
returns c = filled-all _ _ _ _ c.loop-row.invariant (omega arith)
