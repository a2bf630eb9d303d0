-- The verdict on a table by quantifiers, over every row and every price.
-- Assumes nothing.
use Rattle.std.specs.Prelude.{ℕ, ◌+◌, ◌≤◌, ◌<◌, ◌≡◌, true, false}
use Rattle.limits.specs.Limits.{most_steps, value_limit}
use Rattle.bands.specs.Bands.{most_bands, Bands, coverage, unsound, Partition, verdict_of}
use Rattle.bands.specs.declared.Verdict.{Verdict}

-- the pair is not in precisely one band, and every earlier pair is: earlier by row, and in one row by price
pub record FirstFailing (b : Bands) (row price : ℕ) : Type 0 where
  pub row-least : 1 ≤ row
  pub row-most : row ≤ most_steps
  pub price-most : price ≤ value_limit
  pub here : coverage b row price ≡ 1 → ⊥
  pub rows_before : (r p : ℕ) → 1 ≤ r → r < row → p ≤ value_limit → coverage b r p ≡ 1
  pub prices-before : (p : ℕ) → p < price → coverage b row p ≡ 1

-- no band is bad
abbrev pub AllSound : Bands → (ℕ → ℕ) → Type 0
AllSound b haircut = (k : ℕ) → k < b.count → unsound b haircut k ≡ false

-- what a verdict says
pub data Judged (b : Bands) (haircut : ℕ → ℕ) (v : Verdict) : Type 0 where
  bad-band :
      (k : ℕ) → k < b.count → unsound b haircut k ≡ true → ((j : ℕ) → j < k → unsound b haircut j ≡ false) →
      v ≡ verdict_of 16 0 0 (k + 1) → Judged b haircut v
  too_many : AllSound b haircut → most_bands < b.count → v ≡ verdict_of 16 0 0 (most_bands + 1) → Judged b haircut v
  uncovered :
      (row price : ℕ) → AllSound b haircut → b.count ≤ most_bands → FirstFailing b row price → coverage b row price ≡ 0 →
      v ≡ verdict_of 17 row price 0 → Judged b haircut v
  overlapping :
      (row price : ℕ) → AllSound b haircut → b.count ≤ most_bands → FirstFailing b row price → 2 ≤ coverage b row price →
      v ≡ verdict_of 18 row price 0 → Judged b haircut v
  accepted : AllSound b haircut → b.count ≤ most_bands → Partition b → v ≡ verdict_of 0 0 0 0 → Judged b haircut v
