-- What the loops over rows ask of the discounts before a row, and what they have reached.
-- Assumes nothing.
use Rattle.std.specs.Prelude.{List, ◌≡◌, ℕ, ◌≤◌, ◌<◌, length}
use Rattle.arithmetic.specs.Row.{values}
use Rattle.limits.specs.Limits.{most_steps, most_reversion, most_discount}
use Rattle.lattice.specs.Shape.{node_count, row_start}
use Rattle.lattice.specs.RateTree.{rate_tree}
use Rattle.lent_tree.specs.LentTree.{stored}
use Rattle.fit_laws.specs.StatePrices.{state_price_error_bound}

-- the discounts of the rows before row i are there, and none is above its limit
pub record Bounded (b : ℕ) (discounts : List ℕ) (i : ℕ) : Type 0 where
  pub reversion-within-limit : b ≤ most_reversion
  pub row-within-limit : i ≤ most_steps
  pub room : row_start b i ≤ length discounts
  pub discounted : (k : ℕ) → k < row_start b i → values discounts k ≤ most_discount

-- row i: where it starts, its node count and its bound
pub record Reached (b : ℕ) (discounts : List ℕ) (i start nodes bound : ℕ) : Type 0 where
  pub starts : start ≡ row_start b i
  pub counts : nodes ≡ node_count b i
  pub bounds : bound ≡ state_price_error_bound (rate_tree b) (stored b discounts) i
