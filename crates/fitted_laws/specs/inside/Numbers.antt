-- What is known of a fit's numbers once causes 2 to 7 were tested.
-- Assumes nothing.
use Rattle.std.specs.Prelude.{◌≡◌, ℕ, suc, ◌≤◌}
use Rattle.limits.specs.WithinLimits.{WithinLimits}
use Rattle.lattice.specs.Shape.{row_start}

-- the numbers of an accepted tree of n steps and working reversion w, the numbers of its quotes' conversion and of its spacing, and of its memories
pub record Numbers (n w converted spaced discounts state-prices : ℕ) : Type 0 where
  pub quotes-converted : converted ≡ 0
  pub spacing-found : spaced ≡ 0
  pub limits : WithinLimits n w
  pub room-discounts : row_start w n ≤ discounts
  pub room-state-prices : row_start w (suc n) ≤ state-prices
