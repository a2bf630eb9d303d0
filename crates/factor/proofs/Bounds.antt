-- Bounds of the series for y up to one.
-- Assumes nothing.
use mathlib.Core.Path.{◌≡◌, ap}
use mathlib.Core.Bool.{Bool, true, false}
use Prim.Native.Nat.{ℕ, zero, suc, ◌+◌, ◌*◌, ◌≤◌, ◌<◌}
use native.Mathlib.Nat.{le_trans, le_refl, mul-le-mul_left, mul-pos, le_of_mul-le-mul_left, le_dest, zero-add, suc-add}
use native.Mathlib.Omega.{arith}
use lib.Dec.{lit≤}
use Rattle.arithmetic.specs.Rounding.{one}
use Rattle.arithmetic.specs.Sum.{sum}
use Rattle.arithmetic.proofs.SumLaws.{sum-le, sum-term}
use Rattle.arithmetic.proofs.Implied.{Implied, implied, lastly, ◌▸◌}
use Rattle.factor.specs.Series.{term, series, falling, exact_term, scale}
use Rattle.factor.proofs.SeriesLaws.{alternating-most, term-zero, term-falls, term-grows, series-within}
use Rattle.factor.proofs.SeriesLaws.{exact-whole, exact-zero, exact-next, exact-falls}
use Rattle.factor.proofs.Examples.{sum-at-one}

unfoldable factorial : ℕ → ℕ
factorial zero = 1
factorial (suc k) = suc k * factorial k

unfoldable power : ℕ → ℕ → ℕ
power b zero = 1
power b (suc k) = power b k * b

-- at y = o - d the first six terms with alternating signs come to (44 o⁵ + 45 d o⁴ + 20 d² o³ + 10 d³ o² + d⁵) / (120 o⁴)
six-products :
    (y d : ℕ) →
    let o : ℕ = y + d in
    120 * (y * o * o * o * o) + 20 * (y * y * y * o * o) + y * y * y * y * y + 44 * (o * o * o * o * o)
    ≤ 120 * (o * o * o * o * o) + 60 * (y * y * o * o * o) + 5 * (y * y * y * y * o)
six-products y d = omega arith

-- the six terms from their products, multiplied out by m
six-scaled :
    (m e₀ e₁ e₂ e₃ e₄ e₅ : ℕ) {p₁ p₂ p₃ p₄ p₅ : ℕ} → Implied (p₁ ▸ p₂ ▸ p₃ ▸ p₄ ▸ lastly p₅) →
    1 * (m * e₁) ≡ e₀ * p₁ → 2 * (m * e₂) ≡ e₀ * p₂ → 6 * (m * e₃) ≡ e₀ * p₃ →
    24 * (m * e₄) ≡ e₀ * p₄ → 120 * (m * e₅) ≡ e₀ * p₅ → 120 * p₁ + 20 * p₃ + p₅ + 44 * m ≤ 120 * m + 60 * p₂ + 5 * p₄ →
    m * (120 * (e₁ + e₃ + e₅) + 44 * e₀) ≤ m * (120 * (e₀ + e₂ + e₄))
six-scaled m e₀ e₁ e₂ e₃ e₄ e₅ _ h₁ h₂ h₃ h₄ h₅ h = omega (arith, mul-le-mul_left e₀ h)

-- Any unit o, and any exact terms that follow the series' rule.
module _ (o y : ℕ) (e : ℕ → ℕ) (positive : 0 < o) (hy : y ≤ o) (next : (k : ℕ) → k < 12 → e (suc k) * (suc k * o) ≡ e k * y) where
  -- term k is term 0 times y^k / (k! o^k)
  term-form : (k r : ℕ) → k < 13 → factorial k * (power o (k + r) * e k) ≡ e 0 * (power y k * power o r)
  unfolding factorial power
  term-form zero r l = rw (zero-add r) (omega arith)
  term-form (suc k) r l =
      rw (suc-add k r)
      (omega (
        arith,
        ap (λ (x : ℕ). x * y) (term-form k r (omega arith)),
        ap (λ (x : ℕ). factorial k * power o (k + r) * x) (next k (omega arith)),
      ))

  -- the first six terms with alternating signs are at least 44/120 of term 0
  six-terms : 120 * (e 1 + e 3 + e 5) + 44 * e 0 ≤ 120 * (e 0 + e 2 + e 4)
  unfolding factorial power
  six-terms =
      le_of_mul-le-mul_left {m = 120 * (e 1 + e 3 + e 5) + 44 * e 0} {n = 120 * (e 0 + e 2 + e 4)} {k = power o 5}
      (six-scaled (power o 5) (e 0) (e 1) (e 2) (e 3) (e 4) (e 5) implied
      (term-form 1 4 (lit≤ tt))
      (term-form 2 3 (lit≤ tt))
      (term-form 3 2 (lit≤ tt))
      (term-form 4 1 (lit≤ tt))
      (term-form 5 0 (lit≤ tt))
      (omega (arith, products)))
      (omega (arith, mul-pos (mul-pos (mul-pos (mul-pos positive positive) positive) positive) positive))
    where
      products :
          120 * (y * o * o * o * o) + 20 * (y * y * y * o * o) + y * y * y * y * y + 44 * (o * o * o * o * o)
          ≤ 120 * (o * o * o * o * o) + 60 * (y * y * o * o * o) + 5 * (y * y * y * y * o)
      products =
          let (d, s) = le_dest hy in
          rw (← s) (six-products y d)

exact-least : (y : ℕ) → y ≤ one → 44 * exact_term y 0 ≤ 120 * series false (exact_term y)
unfolding sum
exact-least y hy =
    omega (
      arith,
      six-terms one y (exact_term y) (lit≤ tt) hy (exact-next y),
      exact-whole y hy,
      exact-falls y 6 hy (lit≤ tt),
      exact-falls y 8 hy (lit≤ tt),
      exact-falls y 10 hy (lit≤ tt),
    )

scale-positive : 0 < scale
unfolding scale falling
scale-positive = lit≤ tt

alternating-least : (y : ℕ) → y ≤ one → 44 * one ≤ 120 * (series false (term y) + 14)
alternating-least y hy =
    le_of_mul-le-mul_left {m = 44 * one} {n = 120 * (series false (term y) + 14)} {k = scale}
    (omega (arith, exact-least y hy, exact-zero y, (series-within y false hy).below)) scale-positive

-- the sum is at least one,
pub sum-least : (y : ℕ) → one ≤ series true (term y)
unfolding series
sum-least y = omega (arith, sum-term 13 0 (term y) (lit≤ tt), term-zero y)

sum-most-at : (y : ℕ) → y ≤ one → series true (term y) ≤ 2718281823
unfolding series
sum-most-at y hy = le_trans (sum-le 13 (term y) (term one) (λ k l. term-grows y one k hy)) (rw at_one (le_refl _))
  where
    at_one : sum 13 (term one) ≡ 2718281823
    at_one = sum-at-one

-- with alternating signs it is at most one,
pub alternating-within-one : (y : ℕ) → y ≤ one → series false (term y) ≤ one
alternating-within-one y hy = omega (arith, alternating-most (term y) (λ k l. term-falls y k hy), term-zero y)

-- and either is from 0.36 to 2.72 of one
pub series-bounds : (y : ℕ) (below : Bool) → y ≤ one → (360000000 ≤ series below (term y)) × (series below (term y) ≤ 2720000000)
series-bounds y true hy = (omega (arith, sum-least y), omega (arith, sum-most-at y hy))
series-bounds y false hy = (omega (arith, alternating-least y hy), omega (arith, alternating-within-one y hy))
