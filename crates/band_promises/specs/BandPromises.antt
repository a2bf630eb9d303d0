-- What haircut bands promise (document 02, request (xi)), over every row 1 .. 60 and every price 0 .. 8 × one, and for every table: any five lists of numbers.
-- The numbers of the document stand here anew. Index 0 is the first band, place 1.
-- Assumes nothing.
use Rattle.std.specs.Prelude.{◌≡◌, List, ◌⊎◌, ℕ, ◌+◌, ◌-◌, ◌*◌, ◌/◌, ◌≤◌, ◌<◌, length}
use Rattle.arithmetic.specs.Row.{values}
use Rattle.bands.specs.Bands.{verdict}
use Rattle.bands.specs.declared.Verdict.{Verdict}
use Rattle.lending.specs.Lending.{lending_worth}
use Rattle.lending.specs.declared.Worth.{Worth}

pub record Table : Type 0 where
  pub first_rows : List ℕ
  pub last_rows : List ℕ
  pub lowest_prices : List ℕ
  pub highest_prices : List ℕ
  pub haircuts : List ℕ

abbrev pub size : Table → ℕ
size t = length t.first_rows

-- what the two entries answer
abbrev pub verdict_on : Table → Verdict
verdict_on t = verdict t.first_rows t.last_rows t.lowest_prices t.highest_prices t.haircuts

abbrev pub worth_by : Table → ℕ → ℕ → Worth
worth_by t row price = lending_worth t.first_rows t.last_rows t.lowest_prices t.highest_prices t.haircuts row price

abbrev pub shown : ℕ → ℕ → ℕ → ℕ → Verdict
shown number row price place = record { number = number; row = row; price = price; place = place }

pub record OneLength (t : Table) : Type 0 where
  pub last-rows : length t.last_rows ≡ length t.first_rows
  pub lowest-prices : length t.lowest_prices ≡ length t.first_rows
  pub highest-prices : length t.highest_prices ≡ length t.first_rows
  pub haircuts-too : length t.haircuts ≡ length t.first_rows

-- a band with no end before its start, and with starts, ends and haircut in range
pub record Good (t : Table) (k : ℕ) : Type 0 where
  pub rows-in-order : values t.first_rows k ≤ values t.last_rows k
  pub prices-in-order : values t.lowest_prices k ≤ values t.highest_prices k
  pub first-least : 1 ≤ values t.first_rows k
  pub first-most : values t.first_rows k ≤ 60
  pub last-least : 1 ≤ values t.last_rows k
  pub last-most : values t.last_rows k ≤ 60
  pub lowest-most : values t.lowest_prices k ≤ 8000000000
  pub highest-most : values t.highest_prices k ≤ 8000000000
  pub haircut-most : values t.haircuts k ≤ 10000

-- all bands are good, and they are not too many
pub record AllGood (t : Table) : Type 0 where
  pub one-length : OneLength t
  pub good : (k : ℕ) → k < size t → Good t k
  pub not-many : size t ≤ 40

-- band k contains the pair; ends belong to their band
pub record Holds (t : Table) (row price k : ℕ) : Type 0 where
  pub in_table : k < size t
  pub from_row : values t.first_rows k ≤ row
  pub to_row : row ≤ values t.last_rows k
  pub from-price : values t.lowest_prices k ≤ price
  pub to-price : price ≤ values t.highest_prices k

-- in precisely one band, in none, in two or more
pub record Once (t : Table) (row price : ℕ) : Type 0 where
  pub band : ℕ
  pub holds : Holds t row price band
  pub only : (k : ℕ) → Holds t row price k → k ≡ band

abbrev pub Nowhere : Table → ℕ → ℕ → Type 0
Nowhere t row price = (k : ℕ) → Holds t row price k → ⊥

pub record Twice (t : Table) (row price : ℕ) : Type 0 where
  pub band : ℕ
  pub later : ℕ
  pub apart : band < later
  pub holds : Holds t row price band
  pub holds-too : Holds t row price later

abbrev pub Pair : ℕ → ℕ → Type 0
Pair row price = (1 ≤ row) × (row ≤ 60) × (price ≤ 8000000000)

-- every pair before this one, by row and then price, is in precisely one band
abbrev pub OnceBefore : Table → ℕ → ℕ → Type 0
OnceBefore t row price = (r p : ℕ) → Pair r p → (r < row) ⊎ ((r ≡ row) × (p < price)) → Once t r p

-- what a verdict says
pub data Says (t : Table) (v : Verdict) : Type 0 where
  no_table : (OneLength t → ⊥) → v ≡ shown 6 0 0 0 → Says t v
  a-bad-band :
      (k : ℕ) → OneLength t → k < size t → (Good t k → ⊥) → ((j : ℕ) → j < k → Good t j) → v ≡ shown 16 0 0 (k + 1) → Says t v
  over-forty : OneLength t → ((k : ℕ) → k < size t → Good t k) → 40 < size t → v ≡ shown 16 0 0 41 → Says t v
  in-none : (row price : ℕ) → AllGood t → Pair row price → Nowhere t row price → OnceBefore t row price → v ≡ shown 17 row price 0 → Says t v
  in-several : (row price : ℕ) → AllGood t → Pair row price → Twice t row price → OnceBefore t row price → v ≡ shown 18 row price 0 → Says t v
  is-accepted : AllGood t → ((row price : ℕ) → Pair row price → Once t row price) → v ≡ shown 0 0 0 0 → Says t v

-- a worth that is given: by the haircut of the one band that contains the pair, down, and at most the price
pub record Lent (t : Table) (row price : ℕ) : Type 0 where
  pub found : Once t row price
  pub is : (worth_by t row price).worth ≡ price * (10000 - values t.haircuts found.band) / 10000
  pub at_most : (worth_by t row price).worth ≤ price
  pub verdict-zero : (worth_by t row price).verdict ≡ shown 0 0 0 0

-- an answer without a worth
abbrev pub without : Verdict → Worth
without v = record { worth = 0; verdict = v }

pub record BandPromises : Type 0 where
  -- the answer meets what a verdict says, and nothing else does
  pub verdict-says : (t : Table) → Says t (verdict_on t)
  pub nothing-else : (t : Table) (v : Verdict) → Says t v → v ≡ verdict_on t
  -- a worth: 6, then 12, then the table's own refusal, else the price less its haircut
  pub row_before : (t : Table) (price : ℕ) → worth_by t 0 price ≡ without (shown 6 0 0 0)
  pub row-past : (t : Table) (row price : ℕ) → 60 < row → worth_by t row price ≡ without (shown 6 0 0 0)
  pub lengths_differ : (t : Table) (row price : ℕ) → (OneLength t → ⊥) → worth_by t row price ≡ without (shown 6 0 0 0)
  pub price-past :
      (t : Table) (row price : ℕ) → 1 ≤ row → row ≤ 60 → OneLength t → 8000000000 < price → worth_by t row price ≡ without (shown 12 0 0 0)
  pub table-refused :
      (t : Table) (row price : ℕ) → Pair row price → OneLength t → ((verdict_on t).number ≡ 0 → ⊥) → worth_by t row price ≡ without (verdict_on t)
  pub lent : (t : Table) (row price : ℕ) → Pair row price → (verdict_on t).number ≡ 0 → Lent t row price
