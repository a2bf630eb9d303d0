-- What the walk along the prices of a row holds at a stop.
-- Assumes nothing.
use Rattle.std.specs.Prelude.{ℕ, ◌+◌, ◌≤◌, ◌<◌, ◌≡◌}
use Rattle.limits.specs.Limits.{value_limit}
use Rattle.bands.specs.Bands.{Bands, covering}

-- the first n bands: how many contain the pair, and a later price before which that number stays
pub record StopAt (b : Bands) (row price n count end : ℕ) : Type 0 where
  pub counted : count ≡ covering b row price n
  pub further : price < end
  pub most : end ≤ value_limit + 1
  pub same : (q : ℕ) → price ≤ q → q < end → covering b row q n ≡ covering b row price n
