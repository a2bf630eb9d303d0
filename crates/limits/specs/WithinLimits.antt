-- A tree whose steps and reversion are within their limits.
-- Assumes nothing.
use Rattle.std.specs.Prelude.{ℕ, ◌≤◌, ◌<◌}
use Rattle.limits.specs.Limits.{most_steps, most_reversion}

pub record WithinLimits (n b : ℕ) : Type 0 where
  pub steps-positive : 0 < n
  pub steps-within-limit : n ≤ most_steps
  pub reversion-within-limit : b ≤ most_reversion
