-- The first number of a range that passes a test.
-- Assumes nothing.
use Rattle.std.specs.Prelude.{ℕ, zero, suc, ◌-◌, Bool, cond}

-- the first of the n numbers from `start` on that passes; start + n where none does
unfoldable pub search_from : (ℕ → Bool) → ℕ → ℕ → ℕ
search_from test zero start = start
search_from test (suc n) start = cond (test start) start (search_from test n (suc start))

-- the first number of start .. end - 1 that passes; `end` where none does
unfoldable pub first : (ℕ → Bool) → ℕ → ℕ → ℕ
first test start end = search_from test (end - start) start
