use Rattle.std.proofs.Common.{replicate}
use lib.Dec.{leb}
use mathlib.Core.Bool.{cond}
use Rattle.arithmetic.proofs.RowLaws.{Filled}
use Rattle.exercise_dates.specs.Dates.{rows_of_aTree}
use Rattle.exercise_dates.proofs.dates_to.Given as goal

abbrev pub invariant-loop-row : goal.invariant-loop-row
invariant-loop-row l = Filled (replicate rows_of_aTree 0) l.place-items (λ i. cond (leb i l.expiry) i 0) l.row
