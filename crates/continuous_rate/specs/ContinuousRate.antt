-- A node's continuous rate over its step (document 02, request (i)).
-- Assumes nothing.
use Rattle.std.specs.Prelude.{◌≡◌, ℕ, ◌+◌, ◌-◌, ◌*◌, ◌/◌, ◌%◌, ◌≤◌, cond, not, T, eqb, ℤ, pos, negsuc, nat_abs}
use Rattle.std.specs.Int.Signed.{le_z, lt_z}
use Rattle.limits.specs.Limits.{is_discount}
use Rattle.step_rate.specs.StepRate.{refused_rate, answered_rate}
use Rattle.step_rate.specs.declared.Rate.{Rate}
use Rattle.continuous.specs.Continuous.{amount_limit, continuous_discount}
use Rattle.continuous_rate.specs.Least.{first_least}

-- how far two discounts are apart
unfoldable pub distance : ℕ → ℕ → ℕ
distance a b = (a - b) + (b - a)

-- the whole numbers by magnitude, of two such the smaller first: 0, -1, 1, -2, 2, ..
unfoldable pub candidate : ℕ → ℤ
candidate k = cond (eqb (k % 2) 0) (pos (k / 2)) (negsuc (k / 2))

-- how far F of the candidate at place k, before any range test, is from the discount v
unfoldable pub miss : ℕ → ℕ → ℕ
miss v k = distance (continuous_discount (candidate k)) v

-- y: the first of the nearest candidates within the limit, the last of which stands at twice the limit
unfoldable pub continuous_rate : ℕ → ℤ
continuous_rate v = candidate (first_least (miss v) (2 * amount_limit))

-- the answer to a discount, or refusal 9
unfoldable pub continuous_rate_answer : ℕ → Rate
continuous_rate_answer v = cond (not (is_discount v)) refused_rate (answered_rate (continuous_rate v))

-- what request (i) says of y: within the limit, its discount is nearest, of least magnitude, and of two such the smaller
pub record Nearest (v : ℕ) (y : ℤ) : Type 0 where
  pub within : nat_abs y ≤ amount_limit
  pub nearest : (z : ℤ) → nat_abs z ≤ amount_limit → distance (continuous_discount y) v ≤ distance (continuous_discount z) v
  pub least :
      (z : ℤ) → nat_abs z ≤ amount_limit → distance (continuous_discount z) v ≡ distance (continuous_discount y) v → nat_abs y ≤ nat_abs z
  pub smaller :
      (z : ℤ) → nat_abs z ≤ amount_limit → distance (continuous_discount z) v ≡ distance (continuous_discount y) v → nat_abs z ≡ nat_abs y →
      T (le_z y z)

-- two numbers of one sign: below 0 together, and above it
pub record SameSign (y z : ℤ) : Type 0 where
  pub negative : lt_z y (pos 0) ≡ lt_z z (pos 0)
  pub positive : lt_z (pos 0) y ≡ lt_z (pos 0) z
