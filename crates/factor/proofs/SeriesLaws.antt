-- The rounded series: its bounds, and its distance from the exact one.
-- Assumes nothing.
use mathlib.Core.Path.{◌≡◌, refl, ap}
use mathlib.Core.Bool.{Bool, true, false}
use Prim.Native.Nat.{ℕ, zero, suc, ◌+◌, ◌-◌, ◌*◌, ◌/◌, ◌≤◌, ◌<◌}
use native.Mathlib.Nat.{le_trans, le_refl, sub-add_cancel, mul-le-mul, mul-le-mul_left, mul-le-mul_right, mul-pos, le_of_mul-le-mul_left}
use native.Mathlib.Nat.{lt-div-mul-add, div-le_of_le-mul, pow-zero, pow-suc}
use native.Mathlib.Numerals.{add-one}
use native.Mathlib.Omega.{arith}
use lib.Dec.{lit≤}
use Rattle.arithmetic.specs.Rounding.{one, round_down}
use Rattle.arithmetic.specs.Sum.{sum}
use Rattle.arithmetic.proofs.RoundingLaws.{down_le, down-gt, down-rounds}
use Rattle.arithmetic.proofs.SumLaws.{sum-le, sum-add, sum-scale, sum_grow, sum-shift}
use Rattle.arithmetic.specs.Within.{Within}
use Rattle.factor.specs.Series.{term, even, odd, series, falling, exact_term, scale}

suc-positive : (k : ℕ) → 0 < suc k
suc-positive k = omega arith

positive-divisor : (k o : ℕ) → 0 < o → 0 < suc k * o
positive-divisor k o h = mul-pos {m = suc k} (suc-positive k) h

-- any series by its even and odd terms
pub sum-by-parts : (t : ℕ → ℕ) → series true t ≡ sum 7 (even t) + sum 6 (odd t)
unfolding series sum
sum-by-parts t = omega arith

-- Any series whose terms fall.
module _ (t : ℕ → ℕ) (falls : (k : ℕ) → k < 12 → t (suc k) ≤ t k) where
  pub odd-le-even : sum 6 (odd t) ≤ sum 7 (even t)
  odd-le-even =
      le_trans (sum-le 6 (odd t) (even t) (λ i l. rw (add-one (2 * i)) (falls (2 * i) (omega arith))))
      (sum_grow 7 6 (even t) (lit≤ tt))

  -- with alternating signs nothing is cut off,
  pub alternating-whole : series false t + sum 6 (odd t) ≡ sum 7 (even t)
  unfolding series
  alternating-whole = sub-add_cancel odd-le-even

  -- and what comes after term 0 takes away
  pub alternating-most : series false t ≤ t 0
  unfolding series
  alternating-most =
      omega (arith, sum-shift 6 (even t), sum-le 6 (λ i. even t (suc i)) (odd t) (λ i l. later i l))
    where
      later : (i : ℕ) → i < 6 → t (2 * suc i) ≤ t (2 * i + 1)
      later i l =
          let e : 2 * suc i ≡ suc (2 * i + 1) = omega arith in
          rw e (falls (2 * i + 1) (omega arith))

-- the rounded terms start at one, fall, and grow with y
pub term-zero : (y : ℕ) → term y 0 ≡ one
unfolding term
term-zero y = refl

pub term-next : (y k : ℕ) → term y (suc k) ≡ round_down (term y k * y) (suc k * one)
unfolding term
term-next y k = refl

pub term-falls : (y k : ℕ) → y ≤ one → term y (suc k) ≤ term y k
unfolding term round_down
term-falls y k h =
    div-le_of_le-mul (suc k * one) (omega (arith, mul-le-mul_left (term y k) h, mul-le-mul_left (term y k * one) (suc-positive k)))

pub term-most : (y k : ℕ) → y ≤ one → term y k ≤ one
term-most y zero h = omega (arith, term-zero y)
term-most y (suc k) h = le_trans (term-falls y k h) (term-most y k h)

pub term-grows : (y z k : ℕ) → y ≤ z → term y k ≤ term z k
unfolding term
term-grows y z zero h = le_refl one
term-grows y z (suc k) h =
    down-rounds.monotone _ _ (suc k * one) (positive-divisor k one (lit≤ tt)) (mul-le-mul (term-grows y z k h) h)

-- the exact terms follow the series' rule, and fall
pub exact-next : (y k : ℕ) → k < 12 → exact_term y (suc k) * (suc k * one) ≡ exact_term y k * y
unfolding exact_term falling
exact-next y k l =
    let d : ℕ = 12 - suc k in
    let e : 12 - k ≡ suc d = omega arith in
    let e' : 12 - d ≡ suc k = omega arith in
    rw (e, e', pow-suc y k, pow-suc one d) (omega arith)

pub exact-zero : (y : ℕ) → exact_term y 0 ≡ scale * one
unfolding exact_term falling scale
exact-zero y = rw (pow-zero y) refl

pub exact-falls : (y k : ℕ) → y ≤ one → k < 12 → exact_term y (suc k) ≤ exact_term y k
exact-falls y k h l =
    le_of_mul-le-mul_left {m = exact_term y (suc k)} {n = exact_term y k} {k = suc k * one}
    (omega (arith, exact-next y k l, mul-le-mul_left (exact_term y k) h, mul-le-mul_left (exact_term y k * one) (suc-positive k)))
    (positive-divisor k one (lit≤ tt))

-- One step over any unit o and any scale w: x and x' are the exact terms, times w; b and b' bound the error in hundredths.
module _ (w o k y t x x' : ℕ) (pos : 0 < o) (e : x' * (suc k * o) ≡ x * y) where
  -- the rounded term stays below the exact one,
  step-low : w * t ≤ x → w * round_down (t * y) (suc k * o) ≤ x'
  step-low h =
      let d : ℕ = suc k * o in
      let dpos : 0 < d = positive-divisor k o pos in
      le_of_mul-le-mul_left {m = w * round_down (t * y) d} {n = x'} {k = d}
      (omega (arith, mul-le-mul_left w (down_le (t * y) d dpos), mul-le-mul_right y h, e)) dpos

  -- and its error is divided by k + 1 and grows by less than one
  step-high :
      (b b' : ℕ) → y ≤ o → 100 * suc k + b ≤ suc k * b' → 100 * x ≤ w * (100 * t + b) →
      100 * x' ≤ w * (100 * round_down (t * y) (suc k * o) + b')
  step-high b b' hy hb h =
      let d : ℕ = suc k * o in
      let dpos : 0 < d = positive-divisor k o pos in
      le_of_mul-le-mul_left {m = 100 * x'} {n = w * (100 * round_down (t * y) d + b')} {k = d}
      (omega (
        arith,
        e,
        mul-le-mul_right y h,
        mul-le-mul_left w (down-gt (t * y) d dpos),
        mul-le-mul_left (w * b) hy,
        mul-le-mul_left (w * o) hb,
      )) dpos

-- the error of term k in hundredths, at most: terms 0 and 1 are exact
unfoldable error : ℕ → ℕ
error zero = 0
error (suc zero) = 0
error (suc (suc k)) = 100 + (error (suc k) + suc k) / suc (suc k)

error-next : (k : ℕ) → 100 * suc (suc k) + error (suc k) ≤ suc (suc k) * error (suc (suc k))
unfolding error
error-next k = omega (arith, lt-div-mul-add {a = error (suc k) + suc k} {b = suc (suc k)} (suc-positive (suc k)))

-- term 1 is y
term-one : (y : ℕ) → term y 1 ≡ y
unfolding term round_down
term-one y = omega arith

exact_one : (y : ℕ) → exact_term y 1 ≡ scale * y
exact_one y = omega (arith, exact-next y 0 (lit≤ tt), ap (λ (x : ℕ). x * y) (exact-zero y))

term-low : (y k : ℕ) → y ≤ one → k < 13 → scale * term y k ≤ exact_term y k
term-low y zero hy l = omega (arith, exact-zero y, ap (λ (x : ℕ). scale * x) (term-zero y))
term-low y (suc k) hy l =
    rw (term-next y k)
    (step-low scale one k y (term y k) (exact_term y k) (exact_term y (suc k)) (lit≤ tt) (exact-next y k (omega arith))
    (term-low y k hy (omega arith)))

term-high : (y k : ℕ) → y ≤ one → k < 13 → 100 * exact_term y k ≤ scale * (100 * term y k + error k)
unfolding error
term-high y zero hy l = omega (arith, exact-zero y, ap (λ (x : ℕ). scale * x) (term-zero y))
term-high y (suc zero) hy l = rw (term-one y, exact_one y) (omega arith)
term-high y (suc (suc k)) hy l =
    rw (term-next y (suc k))
    (step-high scale one (suc k) y (term y (suc k)) (exact_term y (suc k)) (exact_term y (suc (suc k))) (lit≤ tt)
    (exact-next y (suc k) (omega arith)) (error (suc k)) (error (suc (suc k))) hy (error-next k)
    (term-high y (suc k) hy (omega arith)))

-- a sum over any choice of terms: place i of n has term p i
module _ (y n : ℕ) (p : ℕ → ℕ) (hy : y ≤ one) (h : (i : ℕ) → i < n → p i < 13) where
  chosen-low : scale * sum n (λ i. term y (p i)) ≤ sum n (λ i. exact_term y (p i))
  chosen-low =
      omega (
        arith,
        sum-scale n scale (λ i. term y (p i)),
        sum-le n (λ i. scale * term y (p i)) (λ i. exact_term y (p i)) (λ i l. term-low y (p i) hy (h i l)),
      )

  chosen-high :
      100 * sum n (λ i. exact_term y (p i)) ≤ scale * (100 * sum n (λ i. term y (p i)) + sum n (λ i. error (p i)))
  chosen-high =
      omega (
        arith,
        sum-scale n 100 (λ i. exact_term y (p i)),
        sum-scale n (100 * scale) (λ i. term y (p i)),
        sum-scale n scale (λ i. error (p i)),
        sum-add n (λ i. (100 * scale) * term y (p i)) (λ i. scale * error (p i)),
        sum-le n (λ i. 100 * exact_term y (p i)) (λ i. (100 * scale) * term y (p i) + scale * error (p i))
            (λ i l. omega (arith, term-high y (p i) hy (h i l))),
      )

-- the errors of all terms come to less than 14
total-error : sum 7 (even error) + sum 6 (odd error) ≤ 1400
unfolding sum error
total-error = lit≤ tt

-- Rounded sums e and o of the even and of the odd terms, at most 14 below the exact ones in all.
record Parts (w e o e' o' : ℕ) : Type 0 where
  evens : ℕ
  odds : ℕ
  even-low : w * e ≤ e'
  odd_low : w * o ≤ o'
  even-high : 100 * e' ≤ w * (100 * e + evens)
  odd-high : 100 * o' ≤ w * (100 * o + odds)
  total : evens + odds ≤ 1400

parts-of : (y : ℕ) → y ≤ one → Parts scale (sum 7 (even (term y))) (sum 6 (odd (term y))) (sum 7 (even (exact_term y))) (sum 6 (odd (exact_term y)))
parts-of y hy =
    record {
      evens = sum 7 (even error);
      odds = sum 6 (odd error);
      even-low = chosen-low y 7 (λ i. 2 * i) hy even_place;
      odd_low = chosen-low y 6 (λ i. 2 * i + 1) hy odd_place;
      even-high = chosen-high y 7 (λ i. 2 * i) hy even_place;
      odd-high = chosen-high y 6 (λ i. 2 * i + 1) hy odd_place;
      total = total-error;
    }
  where
    even_place : (i : ℕ) → i < 7 → 2 * i < 13
    even_place i l = omega arith

    odd_place : (i : ℕ) → i < 6 → 2 * i + 1 < 13
    odd_place i l = omega arith

-- their sum, and their difference
sum-within : (w e o e' o' : ℕ) → Parts w e o e' o' → Within 14 w (e + o) (e' + o')
sum-within w e o e' o' p = record { above = omega arith; below = omega (arith, mul-le-mul_left w p.total) }

difference-within : (w : ℕ) {e o e' o' d d' : ℕ} → Parts w e o e' o' → d + o ≡ e → d' + o' ≡ e' → Within 14 w d d'
difference-within w {e} {o} {d} p r s =
    let scaled : w * (d + o) ≡ w * e = ap (λ (x : ℕ). w * x) r in
    record { above = omega (arith, mul-le-mul_left w p.total); below = omega (arith, mul-le-mul_left w p.total) }

-- neither the rounded nor the exact series cuts anything off
module _ (y : ℕ) (hy : y ≤ one) where
  pub rounded-whole : series false (term y) + sum 6 (odd (term y)) ≡ sum 7 (even (term y))
  rounded-whole = alternating-whole (term y) (λ k l. term-falls y k hy)

  pub exact-whole : series false (exact_term y) + sum 6 (odd (exact_term y)) ≡ sum 7 (even (exact_term y))
  exact-whole = alternating-whole (exact_term y) (λ k l. exact-falls y k hy l)

-- for y up to one the rounded series is within 14 of the exact one, either sign
pub series-within : (y : ℕ) (below : Bool) → y ≤ one → Within 14 scale (series below (term y)) (series below (exact_term y))
series-within y true hy =
    rw (sum-by-parts (term y), sum-by-parts (exact_term y)) (sum-within scale _ _ _ _ (parts-of y hy))
series-within y false hy =
    difference-within scale (parts-of y hy) (rounded-whole y hy) (exact-whole y hy)
