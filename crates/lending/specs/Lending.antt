-- The lending worth of a bond: its price less the haircut of the band of its last row and price.
-- Assumes nothing.
use Rattle.std.specs.Prelude.{ℕ, ◌-◌, ◌*◌, ◌/◌, cond, ◌&&◌, List, leb, eqb, Result, Ok, Err}
use Rattle.arithmetic.specs.Row.{values}
use Rattle.limits.specs.Limits.{most_steps, value_limit}
use Rattle.bands.specs.Search.{first}
use Rattle.bands.specs.Bands.{most_haircut, Bands, bands_of, contains, same_lengths, verdict}
use Rattle.bands.specs.Faults.{fault_verdict}
use Rattle.bands.specs.declared.Fault.{Fault}
use Rattle.lending.specs.declared.Worth.{Worth}

-- the index of the first band that contains the pair (in an accepted table, of the one)
unfoldable pub band_index : Bands → ℕ → ℕ → ℕ
band_index b row price = first (contains b row price) 0 b.count

-- price × (10,000 − haircut) / 10,000, down
abbrev pub after_haircut : ℕ → ℕ → ℕ
after_haircut price haircut = price * (most_haircut - haircut) / most_haircut

-- a refusal: no worth
abbrev pub refused_worth : ℕ → Worth
refused_worth number = record { worth = 0; verdict = record { number = number; row = 0; price = 0; place = 0 } }

-- a worth that may be refused, as C sees it
abbrev pub result_worth : Result ℕ Fault → Worth
result_worth (Ok worth) = record { worth = worth; verdict = record { number = 0; row = 0; price = 0; place = 0 } }
result_worth (Err fault) = record { worth = 0; verdict = fault_verdict fault }

-- the answer by an accepted table
abbrev pub accepted_worth : List ℕ → List ℕ → List ℕ → List ℕ → List ℕ → ℕ → ℕ → ℕ
accepted_worth firsts lasts lowests highests haircuts row price =
    after_haircut price (values haircuts (band_index (bands_of firsts lasts lowests highests) row price))

-- 6 a row outside 1 .. 60 or lengths that differ, 12 a price above 8 × one, then the table's own verdict
unfoldable pub lending_worth : List ℕ → List ℕ → List ℕ → List ℕ → List ℕ → ℕ → ℕ → Worth
lending_worth firsts lasts lowests highests haircuts row price =
    cond (leb 1 row && (leb row most_steps && same_lengths firsts lasts lowests highests haircuts))
    (cond (leb price value_limit)
    (record {
      worth = cond (eqb (verdict firsts lasts lowests highests haircuts).number 0) (accepted_worth firsts lasts lowests highests haircuts row price) 0;
      verdict = verdict firsts lasts lowests highests haircuts;
    })
    (refused_worth 12))
    (refused_worth 6)
