-- Which number the entries for a rate tree and a spread tree give (document 02, request (xiii)): the causes in the order in which they are tried. It is by
-- number, but for 19, which is tried after 3 and before 4, and 13, which is tried before 12. Of the rate tree n, b and rates, of the spread tree m, c and
-- spreads.
-- Assumes nothing.
use Rattle.std.specs.Prelude.{◌≡◌, Bool, not, ◌&&◌, List, [], ◌∷◌, ℕ, suc, ◌*◌, ◌/◌, eqb, leb, ltb, length}
use Rattle.arithmetic.specs.Rounding.{one}
use Rattle.arithmetic.specs.Row.{each}
use Rattle.limits.specs.Limits.{is_steps, is_reversion}
use Rattle.lattice.specs.Shape.{node_count, row_start}
use Rattle.lattice.specs.RateTree.{rate_tree}
use Rattle.lent_tree.specs.LentTree.{stored}
use Rattle.pricing_laws.specs.Pricer.{Pricer, Side, Schedule, bond, option}
use Rattle.pricing_laws.specs.Schedule.{numbered_side, dated_schedule}
use Rattle.price_laws.specs.Prices.{flow_at}
use Rattle.promises.specs.Causes.{Cause, cause, first_of, discounts_accepted, flows_accepted, terms_accepted, dates_accepted}
use Rattle.pair_laws.specs.Pair.{Pair, at, pair_engine}
use Rattle.pair_laws.specs.PairPrices.{pair_bond_price, pair_dated_price}

-- the engine on two lent trees
abbrev pub engine_on : ℕ → ℕ → List ℕ → List ℕ → Pricer Pair
engine_on b c rates spreads = pair_engine (rate_tree b) (rate_tree c) (stored b rates) (stored c spreads)

-- a test of every pair of one row, of rows 0 to n − 1
abbrev pub every_pair : ℕ → ℕ → ℕ → (ℕ → ℕ → ℕ → Bool) → Bool
every_pair b c n test = each n (λ i. each (node_count b i) (λ j. each (node_count c i) (test i j)))

-- 9: no pair of one row has a discount of 0
abbrev pub pairs_discounted : ℕ → ℕ → ℕ → List ℕ → List ℕ → Bool
pairs_discounted n b c rates spreads = every_pair b c n (λ i j l. ltb 0 (stored b rates i j * stored c spreads i l / one))

-- 12: no value of rows 0 to n, or of rows 0 to an option's last, above 8 × one
abbrev pub pairs_accepted : ℕ → ℕ → ℕ → (ℕ → Pair → ℕ) → Bool
pairs_accepted b c n value = every_pair b c (suc n) (λ i j l. leb (value i (at j l)) 8000000000)

-- about two trees, their lent discounts and the flows
abbrev pub pair_causes : ℕ → ℕ → List ℕ → ℕ → ℕ → List ℕ → List ℕ → List Cause → List Cause
pair_causes n b rates m c spreads flows later =
    cause 3 (not (is_steps n && is_steps m)) ∷ cause 19 (not (leb n 20 && eqb n m)) ∷ cause 4 (not (is_reversion b && is_reversion c))
    ∷ cause 6 (not (leb (row_start b n) (length rates) && leb (row_start c m) (length spreads) && eqb (length flows) n))
    ∷ cause 9 (not (discounts_accepted n b rates && discounts_accepted m c spreads)) ∷ cause 9 (not (pairs_discounted n b c rates spreads))
    ∷ cause 10 (not (flows_accepted flows)) ∷ later

-- 12 of a bond, and of an option: a value of its bond, or of itself
abbrev pub bond_within : ℕ → ℕ → ℕ → List ℕ → List ℕ → List ℕ → Bool
bond_within n b c rates spreads flows = pairs_accepted b c n (bond (engine_on b c rates spreads) (flow_at flows) n)

abbrev pub option_within : ℕ → ℕ → ℕ → List ℕ → List ℕ → List ℕ → Side → ℕ → Schedule → Bool
option_within n b c rates spreads flows side strike rows =
    pairs_accepted b c rows.last (option (engine_on b c rates spreads) (flow_at flows) n side strike rows)

pub record PairCausePromises : Type 0 where
  pub bond-causes : (n b : ℕ) (rates : List ℕ) (m c : ℕ) (spreads flows : List ℕ) →
      (pair_bond_price n b rates m c spreads flows).number
      ≡ first_of (pair_causes n b rates m c spreads flows (cause 12 (not (bond_within n b c rates spreads flows)) ∷ []))
  pub dated-causes : (n b : ℕ) (rates : List ℕ) (m c : ℕ) (spreads flows : List ℕ) (side : ℕ) (dates : List ℕ) (strike : ℕ) →
      (pair_dated_price n b rates m c spreads flows side dates strike).number
      ≡ first_of (pair_causes n b rates m c spreads flows (cause 11 (not (terms_accepted side strike)) ∷ cause 13 (not (dates_accepted n dates))
      ∷ cause 12 (not (bond_within n b c rates spreads flows
      && option_within n b c rates spreads flows (numbered_side side) strike (dated_schedule dates))) ∷ []))
