-- A rate tree and a spread tree together (document 02, request (xiii)): a node is a pair of nodes, and the moves of the two are independent.
-- Assumes nothing.
use Rattle.std.specs.Prelude.{ℕ, ◌*◌, ◌/◌, ◌<◌}
use Rattle.arithmetic.specs.Rounding.{one}
use Rattle.arithmetic.specs.Sum.{greatest}
use Rattle.tree.specs.Tree.{Tree, outgoing, probability_total}
use Rattle.pricing_laws.specs.Pricer.{Pricer, rounded, fractions, error_bound}
use Rattle.pricing_laws.specs.TreePricer.{roll_rounding, roll_loss}

pub record Pair : Type 0 where
  pub rate : ℕ
  pub spread : ℕ

abbrev pub at : ℕ → ℕ → Pair
at j k = record { rate = j; spread = k }

-- a pair is one of row i where both of its nodes are
pub record Stands (rates spreads : Tree) (i : ℕ) (k : Pair) : Type 0 where
  pub on-rates : k.rate < rates.nodes i
  pub on-spreads : k.spread < spreads.nodes i

-- the factor that one exact roll adds to a denominator: 600,000,000 × 600,000,000 × one
abbrev pub pair_unit : ℕ
pair_unit = 360000000000000000000000000

module _ (rates spreads : Tree) (rate_discount spreadDiscount : ℕ → ℕ → ℕ) where
  -- the discount of a pair: the product of the two, divided by one, down
  unfoldable pub combined : ℕ → Pair → ℕ
  combined i k = rate_discount i k.rate * spreadDiscount i k.spread / one

  -- along the rate side and then the spread side, each divided by 600,000,000; then × discount, divided by one
  unfoldable pub pair_roll : (ℕ → ℕ → ℕ) → ℕ → (Pair → ℕ) → Pair → ℕ
  pair_roll divide i v k =
      divide
      (divide
      (outgoing (spreads.step i) (λ b. divide (outgoing (rates.step i) (λ a. v (at a b)) k.rate) probability_total) k.spread)
      probability_total
      * combined i k)
      one

  -- independent branches in exact fractions, times pair_unit
  unfoldable pub exact_pair_roll : ℕ → (Pair → ℕ) → Pair → ℕ
  exact_pair_roll i v k = combined i k * outgoing (spreads.step i) (λ b. outgoing (rates.step i) (λ a. v (at a b)) k.rate) k.spread

  abbrev pub pair_engine : Pricer Pair
  pair_engine = rounded (pair_roll roll_rounding)

  abbrev pub exact_pair : Pricer Pair
  exact_pair = fractions pair_unit exact_pair_roll

  -- the greatest discount of a pair of row i
  unfoldable pub greatest_combined : ℕ → ℕ
  greatest_combined i = greatest (rates.nodes i) (λ j. greatest (spreads.nodes i) (λ k. combined i (at j k)))

  -- the price allowance at row i of two trees of n steps
  abbrev pub pair_error_bound : ℕ → ℕ → ℕ
  pair_error_bound = error_bound roll_loss greatest_combined
