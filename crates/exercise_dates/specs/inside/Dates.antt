-- The first rows of a list of dates.
-- Assumes nothing.
use Rattle.std.specs.Prelude.{ℕ, cond, List, leb}
use Rattle.arithmetic.specs.Row.{row}
use Rattle.exercise_dates.specs.Dates.{rows_of_aTree}

-- every row to expiry
unfoldable pub dates_to : ℕ → List ℕ
dates_to expiry = row rows_of_aTree (λ i. cond (leb i expiry) i 0)
