-- A discount of at most 2 × one is within 100 of the fourth power of the exact series.
-- Assumes nothing.
use mathlib.Core.Path.{◌≡◌, refl, ap}
use mathlib.Core.Bool.{Bool}
use Prim.Native.Nat.{ℕ, ◌+◌, ◌*◌, ◌/◌, ◌^◌, ◌≤◌, ◌<◌}
use native.Mathlib.Nat.{le_trans, mul-le-mul, mul-le-mul_left, lt_of_not-le, not-le_of_lt, le_dest, pow-suc, pow-zero}
use native.Mathlib.Omega.{arith}
use lib.IntN.{ℤ, pos, nat_abs}
use lib.Signed.{lt_z}
use Rattle.arithmetic.specs.Within.{Within}
use Rattle.arithmetic.specs.Rounding.{one, round_down}
use Rattle.factor.specs.Series.{term, series, exact_term, scale}
use Rattle.factor.proofs.SeriesLaws.{series-within}
use Rattle.factor.proofs.Bounds.{series-bounds}
use Rattle.continuous.specs.Continuous.{amount_limit, quarter_of, square_down, fourth_power, side_discount, continuous_discount, exact_power, power_scale}
use Rattle.continuous.proofs.Sides.{quotient-most}

-- a square below n² has a root below n
root_below : (a n : ℕ) → a * a < n * n → a < n
root_below a n h = lt_of_not-le (λ (g : n ≤ a). not-le_of_lt h (mul-le-mul g g))

-- the fourth power in billionths times one³: what the two divisions lose
module _ (s : ℕ) (small : fourth_power s ≤ 2000000000) where
  first_below : square_down s < 1414213564
  unfolding fourth_power square_down round_down
  first_below = root_below (s * s / one) 1414213564 (omega (arith, small))

  root-size : s < 1189207116
  unfolding square_down round_down
  root-size = root_below s 1189207116 (omega (arith, first_below))

  square-size : s * s ≤ 1414213564000000000
  unfolding square_down round_down
  square-size = omega (arith, first_below)

  cube-size : s * s * s ≤ 1681792831000000000000000000
  cube-size =
      let h : s ≤ 1189207115 = omega (arith, root-size) in
      omega (arith, mul-le-mul (mul-le-mul h h) h)

  lost-low : 1000000000000000000000000000 * fourth_power s ≤ s * s * (s * s)
  unfolding fourth_power square_down round_down
  lost-low =
      let h : one * (s * s / one) ≤ s * s = omega arith in
      omega (arith, mul-le-mul h h)

  lost-high : s * s * (s * s) ≤ 1000000000000000000000000000 * (fourth_power s + 4)
  unfolding fourth_power square_down round_down
  lost-high =
      let h : s * s ≤ one * (s * s / one) + one = omega arith in
      omega (arith, mul-le-mul h h, first_below)

  above : (s + 14) * (s + 14) * ((s + 14) * (s + 14)) ≤ 1000000000000000000000000000 * (fourth_power s + 100)
  above = omega (arith, lost-high, cube-size, square-size, root-size)

  below : (r : ℕ) → r + 14 ≡ s → 1000000000000000000000000000 * fourth_power s ≤ r * r * (r * r) + 100000000000000000000000000000
  below r e =
      let h : r ≤ s = omega arith in
      let squared : r * r ≤ 1414213564000000000 = le_trans (mul-le-mul h h) square-size in
      let cubed : r * r * r ≤ 1681792831000000000000000000 = le_trans (mul-le-mul (mul-le-mul h h) h) cube-size in
      let power : s * s * (s * s) ≡ (r + 14) * (r + 14) * ((r + 14) * (r + 14)) = rw (← e) refl in
      omega (arith, lost-low, root-size, power)

pow-four : (x : ℕ) → x ^ 4 ≡ x * x * (x * x)
pow-four x = rw (pow-suc x 3, pow-suc x 2, pow-suc x 1, pow-suc x 0, pow-zero x) (omega arith)

power-most : (w t x : ℕ) → x ≤ w * t → x ^ 4 ≤ w ^ 4 * (t * t * (t * t))
power-most w t x h =
    rw (pow-four x, pow-four w) (le_trans (mul-le-mul (mul-le-mul h h) (mul-le-mul h h)) (omega arith))

power-least : (w t x : ℕ) → w * t ≤ x → w ^ 4 * (t * t * (t * t)) ≤ x ^ 4
power-least w t x h =
    rw (pow-four x, pow-four w) (le_trans (omega arith) (mul-le-mul (mul-le-mul h h) (mul-le-mul h h)))

-- a value within 14 of an exact one, which is held times w: its fourth power is held times w ^ 4 × one ^ 3
power-within : (w s x : ℕ) → 14 ≤ s → Within 14 w s x → fourth_power s ≤ 2000000000 → Within 100 (w ^ 4 * one ^ 3) (fourth_power s) (x ^ 4)
power-within w s x least near small =
    record {
      above =
          let (r, e) = le_dest least in
          let e' : r + 14 ≡ s = omega arith in
          let scaled : w * (r + 14) ≡ w * s = ap (λ (z : ℕ). w * z) e' in
          omega (arith, mul-le-mul_left (w ^ 4) (below s small r e'), power-least w r x (omega (arith, near.above)));
      below = le_trans (power-most w (s + 14) x (omega (arith, near.below))) (omega (arith, mul-le-mul_left (w ^ 4) (above s small)));
    }

side-within :
    (q : ℕ) (b : Bool) → q ≤ one → side_discount q b ≤ 2000000000 →
    Within 100 (scale ^ 4 * one ^ 3) (side_discount q b) (series b (exact_term q) ^ 4)
unfolding side_discount
side-within q b h small =
    power-within scale (series b (term q)) (series b (exact_term q)) (omega (arith, (series-bounds q b h).0)) (series-within q b h) small

-- the law of request (i): a P in range is within 100 of the fourth power of the exact series
pub continuous-within :
    (y : ℤ) → nat_abs y ≤ amount_limit → continuous_discount y ≤ 2000000000 →
    Within 100 power_scale (continuous_discount y) (exact_power y)
unfolding continuous_discount exact_power power_scale
continuous-within y limit small = side-within (quarter_of y) (lt_z y (pos 0)) (quotient-most y limit) small
