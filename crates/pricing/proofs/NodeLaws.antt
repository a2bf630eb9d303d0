-- The roll of one node fits 64 bits, and goes to the nearest.
-- Assumes nothing.
use mathlib.Core.Path.{◌≡◌, sym, ap, ◌∙◌}
use Prim.Native.Nat.{ℕ, ◌+◌, ◌*◌, ◌/◌, ◌≤◌}
use native.Mathlib.Nat.{mul-le-mul, mul-le-mul_left, mul-div-mul_left}
use native.Mathlib.Omega.{arith}
use Rattle.limits.specs.Limits.{most_discount, value_limit}
use Rattle.arithmetic.specs.Rounding.{one, nearest}
use Rattle.tree.specs.Tree.{probability_total}

-- three probabilities and values up to 8 × one: the sum fits 64 bits, and so does its quotient times a discount
module _ (p q r : ℕ) {x y z d : ℕ} (h : p + q + r ≡ probability_total) (hx : x ≤ value_limit) (hy : y ≤ value_limit) (hz : z ≤ value_limit)
    (hd : d ≤ most_discount) where
  pub sum_fits : p * x + q * y + r * z ≤ 4800000000000000000
  sum_fits = omega (arith, mul-le-mul_left p hx, mul-le-mul_left q hy, mul-le-mul_left r hz)

  pub product-fits : (p * x + q * y + r * z + probability_total / 2) / probability_total * d ≤ 8800000000000000000
  product-fits =
      let quotient : (p * x + q * y + r * z + probability_total / 2) / probability_total ≤ value_limit = omega (arith, sum_fits) in
      mul-le-mul quotient hd

-- to the nearest, as the code divides: half the divisor added first
pub nearest-by-half : (a h : ℕ) → (a + h) / (2 * h) ≡ nearest a (2 * h)
unfolding nearest
nearest-by-half a h =
    let e : 2 * a + 2 * h ≡ 2 * (a + h) = omega arith in
    sym (rw e (mul-div-mul_left (a + h) (2 * h) (omega arith)))

-- both divisions of the roll
pub rolled-nearest : (a d : ℕ) → ((a + probability_total / 2) / probability_total * d + one / 2) / one ≡ nearest (nearest a probability_total * d) one
rolled-nearest a d =
    nearest-by-half ((a + probability_total / 2) / probability_total * d) (one / 2)
    ∙ ap (λ (x : ℕ). nearest (x * d) one) (nearest-by-half a (probability_total / 2))
