-- Exercise dates as the code holds them.
-- Assumes nothing.
use Rattle.std.specs.Prelude.{ℕ, suc, cond, List, [], eqb, leb, length}
use Rattle.arithmetic.specs.Row.{row, values, padded}
use Rattle.limits.specs.Limits.{most_steps}
use Rattle.pricing_laws.specs.Schedule.{in_dates, last_date, kind_dates}
use Rattle.exercise.specs.declared.Terms.{Terms}
use Rattle.exercise_dates.specs.declared.Dates.{Dates}

-- rows 0 to 60
abbrev pub rows_of_aTree : ℕ
rows_of_aTree = suc most_steps

-- a mark for each row: 1 where it is listed
unfoldable pub marks_of : List ℕ → List ℕ
marks_of dates = row rows_of_aTree (λ i. cond (in_dates dates i) 1 0)

-- the terms of a dated option: side 1 is a call, and its last row is the list's
unfoldable pub dated_terms : ℕ → List ℕ → ℕ → Terms
dated_terms side dates strike = record { call = eqb side 1; strike = strike; last = last_date dates }

-- a list in the first places of so many rows, zeros after it
abbrev pub dates_held : List ℕ → Dates
dates_held dates = record { count = length dates; rows = padded rows_of_aTree (length dates) (values dates) }

-- the list of a kind; none where no tree has the expiry
unfoldable pub dates_of_kind : ℕ → ℕ → Dates
dates_of_kind kind expiry = dates_held (cond (leb expiry most_steps) (kind_dates kind expiry) [])
