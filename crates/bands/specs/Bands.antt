-- Haircut bands (document 02, request (xi)): a table of bands as lists of numbers, index 0 the first band.
-- Assumes nothing.
use Rattle.std.specs.Prelude.{ℕ, zero, suc, ◌+◌, ◌≤◌, ◌≡◌, Bool, true, false, not, cond, ◌&&◌, List, leb, ltb, eqb, length}
use Rattle.arithmetic.specs.Row.{values}
use Rattle.limits.specs.Limits.{most_steps, value_limit}
use Rattle.bands.specs.Search.{first}
use Rattle.bands.specs.declared.Verdict.{Verdict}

-- a table has at most 40 bands; a haircut is in ten-thousandths
abbrev pub most_bands : ℕ
most_bands = 40

abbrev pub most_haircut : ℕ
most_haircut = 10000

-- The bands without their haircuts. A row here is a bond's last row.
pub record Bands : Type 0 where
  pub count : ℕ
  pub first_row : ℕ → ℕ
  pub last_row : ℕ → ℕ
  pub lowest : ℕ → ℕ
  pub highest : ℕ → ℕ

abbrev pub bands_of : List ℕ → List ℕ → List ℕ → List ℕ → Bands
bands_of firsts lasts lowests highests =
    record { count = length firsts; first_row = values firsts; last_row = values lasts; lowest = values lowests; highest = values highests }

-- whether a row and a price fall in the band first .. last, lowest .. highest
unfoldable pub within : ℕ → ℕ → ℕ → ℕ → ℕ → ℕ → Bool
within first last lowest highest row price = leb first row && (leb row last && (leb lowest price && leb price highest))

abbrev pub contains : Bands → ℕ → ℕ → ℕ → Bool
contains b row price k = within (b.first_row k) (b.last_row k) (b.lowest k) (b.highest k) row price

abbrev pub flag : Bool → ℕ
flag true = 1
flag false = 0

-- how many of the first n bands contain the pair
unfoldable pub covering : Bands → ℕ → ℕ → ℕ → ℕ
covering b row price zero = 0
covering b row price (suc n) = covering b row price n + flag (contains b row price n)

abbrev pub coverage : Bands → ℕ → ℕ → ℕ
coverage b row price = covering b row price b.count

-- every pair of a row 1 .. 60 and a price 0 .. 8 × one falls in precisely one band
abbrev pub Partition : Bands → Type 0
Partition b = (row price : ℕ) → 1 ≤ row → row ≤ most_steps → price ≤ value_limit → coverage b row price ≡ 1

-- a band whose ends are in order and in range, and whose haircut is in range
unfoldable pub sound : ℕ → ℕ → ℕ → ℕ → ℕ → Bool
sound first last lowest highest haircut =
    leb 1 first && (leb first last && (leb last most_steps && (leb lowest highest && (leb highest value_limit && leb haircut most_haircut))))

abbrev pub unsound : Bands → (ℕ → ℕ) → ℕ → Bool
unsound b haircut k = not (sound (b.first_row k) (b.last_row k) (b.lowest k) (b.highest k) (haircut k))

-- the index of the first bad band, or the number of bands
unfoldable pub bad_index : Bands → (ℕ → ℕ) → ℕ
bad_index b haircut = first (unsound b haircut) 0 b.count

unfoldable pub failing : Bands → ℕ → ℕ → Bool
failing b row price = not (eqb (coverage b row price) 1)

-- the lowest failing price of a row, or 8 × one + 1
unfoldable pub failing_price : Bands → ℕ → ℕ
failing_price b row = first (failing b row) 0 (value_limit + 1)

-- whether a row has a failing price
unfoldable pub fails : Bands → ℕ → Bool
fails b row = leb (failing_price b row) value_limit

-- the first row with a failing price, or 61
unfoldable pub failing_row : Bands → ℕ
failing_row b = first (fails b) 1 (most_steps + 1)

abbrev pub verdict_of : ℕ → ℕ → ℕ → ℕ → Verdict
verdict_of number row price place = record { number = number; row = row; price = price; place = place }

-- the verdict on a pair that fails: 17 in no band, 18 in two or more
unfoldable pub pair_verdict : Bands → ℕ → ℕ → Verdict
pair_verdict b row price = verdict_of (cond (eqb (coverage b row price) 0) 17 18) row price 0

-- the verdict on the pairs alone
unfoldable pub pairs_verdict : Bands → Verdict
pairs_verdict b =
    cond (leb (failing_row b) most_steps) (pair_verdict b (failing_row b) (failing_price b (failing_row b))) (verdict_of 0 0 0 0)

-- the verdict on a table: 16 a bad band (its place from 1) or too many (41), 17 and 18 the first failing pair, else zeros
unfoldable pub table_verdict : Bands → (ℕ → ℕ) → Verdict
table_verdict b haircut =
    cond (ltb (bad_index b haircut) b.count) (verdict_of 16 0 0 (bad_index b haircut + 1))
    (cond (leb b.count most_bands) (pairs_verdict b)
    (verdict_of 16 0 0 (most_bands + 1)))

-- five lists of one length
unfoldable pub same_lengths : List ℕ → List ℕ → List ℕ → List ℕ → List ℕ → Bool
same_lengths firsts lasts lowests highests haircuts =
    eqb (length lasts) (length firsts) && (eqb (length lowests) (length firsts)
    && (eqb (length highests) (length firsts) && eqb (length haircuts) (length firsts)))

-- the verdict on five lists: 6 where their lengths differ, so that there is no table
unfoldable pub verdict : List ℕ → List ℕ → List ℕ → List ℕ → List ℕ → Verdict
verdict firsts lasts lowests highests haircuts =
    cond (same_lengths firsts lasts lowests highests haircuts)
    (table_verdict (bands_of firsts lasts lowests highests) (values haircuts))
    (verdict_of 6 0 0 0)
