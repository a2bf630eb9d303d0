-- A good band in the words of document 02: no end before its start, and each start, end and haircut in its range.
-- Assumes nothing.
use Rattle.std.specs.Prelude.{ℕ, ◌≤◌}
use Rattle.limits.specs.Limits.{most_steps, value_limit}
use Rattle.bands.specs.Bands.{most_haircut}

pub record SoundBand (first last lowest highest haircut : ℕ) : Type 0 where
  pub rows-in-order : first ≤ last
  pub prices-in-order : lowest ≤ highest
  pub first-least : 1 ≤ first
  pub first-most : first ≤ most_steps
  pub last-least : 1 ≤ last
  pub last-most : last ≤ most_steps
  pub lowest-most : lowest ≤ value_limit
  pub highest-most : highest ≤ value_limit
  pub haircut-most : haircut ≤ most_haircut
