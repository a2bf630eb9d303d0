-- The factor by the node's sign (document 01, Spacing and fit): the sum below the middle, at least one; with alternating signs from the middle on, at
-- most one.
-- Assumes nothing.
use mathlib.Core.Path.{◌≡◌, refl}
use mathlib.Core.Bool.{true, false}
use Prim.Native.Nat.{ℕ, suc, ◌+◌, ◌-◌, ◌*◌, ◌/◌, ◌≤◌}
use native.Mathlib.Omega.{arith}
use lib.IntN.{ℤ, pos, nat_abs}
use lib.Signed.{lt_z}
use Rattle.arithmetic.specs.Rounding.{one, round_down}
use Rattle.arithmetic.specs.Sum.{sum}
use Rattle.factor.specs.Series.{term, series}
use Rattle.factor.specs.Factor.{factor}
use Rattle.factor.proofs.SeriesLaws.{term-zero, term-falls, alternating-most}

pub next-term : (y k : ℕ) → term y (suc k) ≡ term y k * y / (suc k * one)
unfolding term round_down
next-term y k = refl

module _ (j : ℤ) (h : ℕ) where
  pub below-sum : lt_z j (pos 0) ≡ true → factor j h ≡ sum 13 (term (nat_abs j * h))
  unfolding factor series
  below-sum e = rw e

  pub above-sum : lt_z j (pos 0) ≡ false →
      factor j h ≡ sum 7 (λ i. term (nat_abs j * h) (2 * i)) - sum 6 (λ i. term (nat_abs j * h) (2 * i + 1))
  unfolding factor series
  above-sum e = rw e

  pub below_one : lt_z j (pos 0) ≡ true → one ≤ factor j h
  unfolding sum
  below_one e = omega (arith, below-sum e, term-zero (nat_abs j * h))

  pub above-one : lt_z j (pos 0) ≡ false → nat_abs j * h ≤ one → factor j h ≤ one
  unfolding factor
  above-one e y = rw e (omega (arith, term-zero (nat_abs j * h), alternating-most (term (nat_abs j * h)) (λ k l. term-falls (nat_abs j * h) k y)))
