-- Document 01's starred figures of the spacing, and one of version 2: by the two inequalities, which antt computes.
-- Assumes nothing.
use mathlib.Core.Path.{◌≡◌, sym}
use Prim.Native.Nat.{ℕ, ◌<◌}
use native.Mathlib.Omega.{arith}
use lib.Dec.{lit≤}
use Rattle.arithmetic.specs.Rounding.{round_down}
use Rattle.reversion.specs.Reversion.{is_exact}
use Rattle.reversion.proofs.Examples.{examples}
use Rattle.spacing.specs.Spacing.{spacing, version_variance, version_spacing}
use Rattle.spacing.proofs.SpacingLaws.{cube-positive, spacing-unique}
use Rattle.spacing.proofs.VersionLaws.{version-unique}

-- h for s = 10,000, yearly and monthly
pub spacing-yearly : spacing 1 10000 ≡ 17320508
spacing-yearly = sym (spacing-unique 1 10000 (lit≤ tt) 17320508 (lit≤ tt) (lit≤ tt))

pub spacing-monthly : spacing 12 10000 ≡ 416666
spacing-monthly = sym (spacing-unique 12 10000 (lit≤ tt) 416666 (lit≤ tt) (lit≤ tt))

-- s = 0 gives 0
pub spacing-none : (f : ℕ) → 0 < f → spacing f 0 ≡ 0
spacing-none f positive = sym (spacing-unique f 0 positive 0 (omega arith) (omega (arith, cube-positive positive)))

-- b = 1,000 in version 2: 3 × (1,000 s)² × c / one, and h from it
variance-exact : version_variance 2 10000 1000 ≡ 271903870500000
unfolding version_variance is_exact round_down
variance-exact = rw examples.ratio

pub version-yearly : version_spacing 2 1 10000 1000 ≡ 16489507
version-yearly =
    sym (version-unique 2 1 10000 1000 (lit≤ tt) 16489507
    (rw variance-exact (lit≤ tt))
    (rw variance-exact (lit≤ tt)))
