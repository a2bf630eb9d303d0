-- Figures of request (ix) of document 02, which prints none: worked out here, about the definitions that the contracts cite.
-- Assumes nothing.
use Rattle.std.specs.Prelude.{◌≡◌, ℕ, ◌≤◌}
use Rattle.limits.specs.Limits.{most_reversion}
use Rattle.lattice.specs.Shape.{highest_node, discounts_needed}
use Rattle.reversion.specs.Reversion.{working_reversion, variance_ratio}
use Rattle.spacing.specs.Spacing.{version_spacing}

pub record Versions : Type 0 where
  -- the working reversion: the first that differs from b is that of 101
  pub least : working_reversion 2 1 ≡ 1
  pub last-same : working_reversion 2 100 ≡ 100
  pub first-less : working_reversion 2 101 ≡ 100
  pub middle : working_reversion 2 1000 ≡ 952
  pub greatest : working_reversion 2 6000 ≡ 4512
  pub none-greater : (b : ℕ) → b ≤ most_reversion → working_reversion 2 b ≤ 4512
  -- J is 2 up to b = 2,034 and 1 from there on
  pub last-wide : working_reversion 2 2034 ≡ 1840
  pub first-narrow : working_reversion 2 2035 ≡ 1841
  pub highest-wide : highest_node (working_reversion 2 2034) ≡ 2
  pub highest-narrow : highest_node (working_reversion 2 2035) ≡ 1
  -- b = 103, n = 60: the tree of version 2 is the wider one
  pub first-size : discounts_needed 60 (working_reversion 1 103) ≡ 1878
  pub second-size : discounts_needed 60 (working_reversion 2 103) ≡ 1960
  -- c, and h for f = 1 and s = 10,000, of b = 1,000
  pub ratio : variance_ratio 1000 ≡ 906346235
  pub spacing-yearly : version_spacing 2 1 10000 1000 ≡ 16489507
