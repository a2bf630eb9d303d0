-- What the walk along the prices of a row finds at a stop.
-- Assumes nothing.
use Rattle.std.specs.Prelude.{ℕ, ◌+◌, ◌≤◌, ◌<◌, ◌≡◌}
use Rattle.bands.specs.Bands.{within, flag}

-- one band is added to a stop: the band is counted, and its coverage of prices does not change before the next stop
pub record Added (first last lowest highest row price count end count' end' : ℕ) : Type 0 where
  pub counted : count' ≡ count + flag (within first last lowest highest row price)
  pub further : price < end'
  pub earlier : end' ≤ end
  pub same : (q : ℕ) → price ≤ q → q < end' → within first last lowest highest row q ≡ within first last lowest highest row price
