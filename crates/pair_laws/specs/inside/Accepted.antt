-- The roll of two lent trees, and the prices of two that were accepted.
-- Assumes nothing.
use Rattle.std.specs.Prelude.{ℕ, List}
use Rattle.limits.specs.Limits.{limit_cause}
use Rattle.lattice.specs.RateTree.{rate_tree}
use Rattle.lent_tree.specs.LentTree.{stored}
use Rattle.pricing_laws.specs.Pricer.{Side, Schedule}
use Rattle.pricing_laws.specs.TreePricer.{roll_rounding}
use Rattle.price_laws.specs.declared.Price.{Price}
use Rattle.price_laws.specs.Prices.{priced}
use Rattle.pair_laws.specs.Pair.{Pair, at, pair_roll}
use Rattle.pair_laws.specs.PairPrices.{pair_bound, pair_bond_value, pair_bond_peak, pair_option_value, pair_option_limit}

abbrev pub roll_of : ℕ → ℕ → List ℕ → List ℕ → ℕ → (Pair → ℕ) → Pair → ℕ
roll_of b c rates spreads = pair_roll (rate_tree b) (rate_tree c) (stored b rates) (stored c spreads) roll_rounding

-- 12, or the value with its error bound
module _ (n b c : ℕ) (rates spreads flows : List ℕ) where
  abbrev pub accepted_pair_bond : Price
  accepted_pair_bond =
      priced (limit_cause (pair_bond_peak n b c rates spreads flows)) (pair_bond_value n b c rates spreads flows 0 (at 0 0)) (pair_bound n b c rates spreads)

  abbrev pub accepted_pair_option : Side → ℕ → Schedule → Price
  accepted_pair_option side strike rows =
      priced (pair_option_limit n b c rates spreads flows side strike rows) (pair_option_value n b c rates spreads flows side strike rows 0 (at 0 0))
      (pair_bound n b c rates spreads)
