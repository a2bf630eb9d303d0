-- Worked examples of version 2, computed.
-- Assumes nothing.
use mathlib.Core.Path.{◌≡◌, refl}
use Prim.Native.Nat.{ℕ, ◌≤◌}
use native.Mathlib.Omega.{arith}
use Rattle.arithmetic.specs.Rounding.{round_down, nearest}
use Rattle.arithmetic.specs.Sum.{sum}
use Rattle.limits.specs.Limits.{most_reversion}
use Rattle.factor.specs.Series.{term, series}
use Rattle.continuous.specs.Continuous.{square_down, fourth_power, side_discount, continuous_discount}
use Rattle.reversion.specs.Reversion.{exact_reversion, working_reversion, variance_ratio}
use Rattle.reversion.proofs.ReversionLaws.{working-rises}

pub record Examples : Type 0 where
  -- the working reversion: the first that differs from b is that of 101
  pub least : working_reversion 2 1 ≡ 1
  pub last-same : working_reversion 2 100 ≡ 100
  pub first-less : working_reversion 2 101 ≡ 100
  pub wider-tree : working_reversion 2 103 ≡ 102
  pub middle : working_reversion 2 1000 ≡ 952
  pub greatest : working_reversion 2 6000 ≡ 4512
  -- J is 2 up to b = 2,034 and 1 from there on
  pub last-wide : working_reversion 2 2034 ≡ 1840
  pub first-narrow : working_reversion 2 2035 ≡ 1841
  -- c
  pub ratio : variance_ratio 1000 ≡ 906346235

pub examples : Examples
unfolding working_reversion exact_reversion variance_ratio nearest continuous_discount side_discount fourth_power square_down series sum term round_down
examples =
    record {
      least = refl;
      last-same = refl;
      first-less = refl;
      wider-tree = refl;
      middle = refl;
      greatest = refl;
      last-wide = refl;
      first-narrow = refl;
      ratio = refl;
    }

-- the greatest working reversion of version 2
pub working-greatest : (b : ℕ) → b ≤ most_reversion → working_reversion 2 b ≤ 4512
working-greatest b h = omega (arith, working-rises 2 b 6000 h, examples.greatest)
