-- The answers of the entries for two trees (document 02, request (xiii)): a rate tree of reversion b whose discounts are rates, a spread tree of
-- reversion c whose discounts are spreads, both of n steps; flows as lent.
-- Assumes nothing.
use Rattle.std.specs.Prelude.{ℕ, max, List}
use Rattle.arithmetic.specs.Sum.{greatest}
use Rattle.limits.specs.Limits.{limit_cause}
use Rattle.lattice.specs.Shape.{node_count}
use Rattle.lattice.specs.RateTree.{rate_tree}
use Rattle.lent_tree.specs.LentTree.{stored}
use Rattle.pricing_laws.specs.Pricer.{Pricer, Side, Schedule, bond, option}
use Rattle.pricing_laws.specs.Schedule.{numbered_side, dated_schedule}
use Rattle.pricing_laws.specs.Peak.{peak}
use Rattle.price_laws.specs.declared.Price.{Price}
use Rattle.arithmetic.specs.Answers.{first_cause}
use Rattle.price_laws.specs.Prices.{flow_at, priced, dated_cause}
use Rattle.pair_laws.specs.Pair.{Pair, at, pair_engine, exact_pair, greatest_combined, pair_error_bound}
use Rattle.pair_laws.specs.PairCauses.{pair_cause}

-- the greatest value of a pair of row i
unfoldable pub greatest_pair : ℕ → ℕ → ℕ → (Pair → ℕ) → ℕ
greatest_pair b c i v = greatest (node_count b i) (λ j. greatest (node_count c i) (λ l. v (at j l)))

module _ (b c : ℕ) (rates spreads : List ℕ) where
  -- the engine and the exact pricer on two lent trees
  abbrev pub pricer_of : Pricer Pair
  pricer_of = pair_engine (rate_tree b) (rate_tree c) (stored b rates) (stored c spreads)

  abbrev pub exact_of : Pricer Pair
  exact_of = exact_pair (rate_tree b) (rate_tree c) (stored b rates) (stored c spreads)

  -- the greatest discount of row i
  abbrev pub greatest_of_row : ℕ → ℕ
  greatest_of_row = greatest_combined (rate_tree b) (rate_tree c) (stored b rates) (stored c spreads)

module _ (n b c : ℕ) (rates spreads : List ℕ) where
  -- the price allowance of row 0
  unfoldable pub pair_bound : ℕ
  pair_bound = pair_error_bound (rate_tree b) (rate_tree c) (stored b rates) (stored c spreads) n 0

  module _ (flows : List ℕ) where
    -- the engine's bond at a pair of row i, and its greatest value of rows 0 to n
    unfoldable pub pair_bond_value : ℕ → Pair → ℕ
    pair_bond_value = bond (pricer_of b c rates spreads) (flow_at flows) n

    unfoldable pub pair_bond_peak : ℕ
    pair_bond_peak = peak (λ i. greatest_pair b c i (pair_bond_value i)) n 0

    unfoldable pub exact_pair_bond : ℕ
    exact_pair_bond = bond (exact_of b c rates spreads) (flow_at flows) n 0 (at 0 0)

    module _ (side : Side) (strike : ℕ) (rows : Schedule) where
      -- the engine's option at a pair of row i, and its greatest value of rows 0 to its last
      unfoldable pub pair_option_value : ℕ → Pair → ℕ
      pair_option_value = option (pricer_of b c rates spreads) (flow_at flows) n side strike rows

      unfoldable pub pair_option_peak : ℕ
      pair_option_peak = peak (λ i. greatest_pair b c i (pair_option_value i)) rows.last 0

      -- 12: a value of bond or option above 8 × one
      unfoldable pub pair_option_limit : ℕ
      pair_option_limit = limit_cause (max pair_bond_peak pair_option_peak)

    unfoldable pub exact_pair_dated : ℕ → List ℕ → ℕ → ℕ
    exact_pair_dated side dates strike =
        option (exact_of b c rates spreads) (flow_at flows) n (numbered_side side) strike (dated_schedule dates) 0 (at 0 0)

-- of the rate tree n, b and rates, of the spread tree m, c and spreads: a cause about the trees comes first, 12 last
unfoldable pub pair_bond_price : ℕ → ℕ → List ℕ → ℕ → ℕ → List ℕ → List ℕ → Price
pair_bond_price n b rates m c spreads flows =
    priced (first_cause (pair_cause n b rates m c spreads flows) (limit_cause (pair_bond_peak n b c rates spreads flows)))
    (pair_bond_value n b c rates spreads flows 0 (at 0 0)) (pair_bound n b c rates spreads)

-- an option on listed rows: 11 for its side and strike and 13 for its list come after the trees' causes
unfoldable pub pair_dated_price : ℕ → ℕ → List ℕ → ℕ → ℕ → List ℕ → List ℕ → ℕ → List ℕ → ℕ → Price
pair_dated_price n b rates m c spreads flows side dates strike =
    priced
    (first_cause (pair_cause n b rates m c spreads flows)
    (first_cause (dated_cause n side dates strike)
    (pair_option_limit n b c rates spreads flows (numbered_side side) strike (dated_schedule dates))))
    (pair_option_value n b c rates spreads flows (numbered_side side) strike (dated_schedule dates) 0 (at 0 0)) (pair_bound n b c rates spreads)
