-- The rows on which an option may be exercised (documents 01, Prices, and 02, request (iii)): a list of rows, and the four kinds as special lists.
-- Assumes nothing.
use Rattle.std.specs.Prelude.{ℕ, zero, suc, ◌+◌, ◌-◌, ◌<◌, ◌≡◌, Bool, false, cond, ◌&&◌, ◌||◌, List, [], ◌∷◌, eqb, leb, ltb, length}
use Rattle.arithmetic.specs.Row.{row, values, each}
use Rattle.pricing_laws.specs.Pricer.{Side, call, put, Schedule}

-- row i is one of the first c rows of a list
unfoldable pub among : List ℕ → ℕ → ℕ → Bool
among dates zero i = false
among dates (suc c) i = eqb i (values dates c) || among dates c i

abbrev pub in_dates : List ℕ → ℕ → Bool
in_dates dates i = among dates (length dates) i

abbrev pub last_date : List ℕ → ℕ
last_date dates = values dates (length dates - 1)

-- the schedule of a list: its last row, and the rows before it that are in the list
unfoldable pub dated_schedule : List ℕ → Schedule
dated_schedule dates = record { last = last_date dates; listed = in_dates dates }

-- strictly rising: each row is below the next
unfoldable pub rising : List ℕ → Bool
rising dates = each (length dates - 1) (λ k. ltb (values dates k) (values dates (k + 1)))

-- 13: a list that is empty, not strictly rising, or reaches row n
unfoldable pub dates_cause : ℕ → List ℕ → ℕ
dates_cause n dates = cond (ltb 0 (length dates) && (rising dates && ltb (last_date dates) n)) 0 13

-- every row of one list is in another: each entry of the one is some entry of the other (document 02, request (v))
abbrev pub Contained : List ℕ → List ℕ → Type 0
Contained few many = (k : ℕ) → k < length few → (j : ℕ) × (j < length many) × (values few k ≡ values many j)

-- the side of a dated option: 1 call, 2 put
unfoldable pub numbered_side : ℕ → Side
numbered_side side = cond (eqb side 1) call put

-- ---- the four kinds: 1 European call, 2 European put, 3 American call, 4 American put

-- every row from 0 to expiry
abbrev pub every_row : ℕ → List ℕ
every_row expiry = row (suc expiry) (λ i. i)

-- expiry alone
unfoldable pub european : ℕ → Schedule
european expiry = dated_schedule (expiry ∷ [])

unfoldable pub american : ℕ → Schedule
american expiry = dated_schedule (every_row expiry)

unfoldable pub side_of : ℕ → Side
side_of kind = cond (eqb kind 1 || eqb kind 3) call put

-- the list of a kind, and its side as a dated option has it
unfoldable pub kind_dates : ℕ → ℕ → List ℕ
kind_dates kind expiry = cond (leb 3 kind) (every_row expiry) (expiry ∷ [])

unfoldable pub kind_side : ℕ → ℕ
kind_side kind = cond (eqb kind 1 || eqb kind 3) 1 2

unfoldable pub schedule_of : ℕ → ℕ → Schedule
schedule_of kind expiry = dated_schedule (kind_dates kind expiry)
