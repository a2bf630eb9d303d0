-- The discounts of either side of 0: where they fall, rise and meet.
-- Assumes nothing.
use mathlib.Core.Path.{◌≡◌, refl}
use mathlib.Core.Bool.{Bool, true, false}
use Prim.Native.Nat.{ℕ, suc, ◌+◌, ◌*◌, ◌≤◌, ◌<◌}
use native.Mathlib.Omega.{arith}
use native.Mathlib.Numerals.{add-one}
use lib.Dec.{lit≤}
use lib.IntN.{ℤ, nat_abs}
use Rattle.arithmetic.specs.Rounding.{one, round_down}
use Rattle.arithmetic.specs.Sum.{sum}
use Rattle.arithmetic.proofs.SumLaws.{sum-shift, sum-le, sum_grow}
use Rattle.factor.specs.Series.{term, even, odd, series}
use Rattle.factor.proofs.SeriesLaws.{term-zero, term-falls, term-grows, rounded-whole}
use Rattle.factor.proofs.Bounds.{sum-least, alternating-within-one, series-bounds}
use Rattle.continuous.specs.Continuous.{amount_limit, quarter_of, square_down, fourth_power, side_discount}
use Rattle.continuous.proofs.SeriesFalls.{alternating-falls}
use Rattle.continuous.proofs.Squares.{fourth-grows, fourth-climbs, fourth-most, fourth-least, line-squared}

-- the quotient of a y within the limit is at most one
pub quotient-most : (y : ℤ) → nat_abs y ≤ amount_limit → quarter_of y ≤ one
unfolding round_down
quotient-most y h = omega arith

-- ---- y at or above 0

-- a hundred quotients further, F of y above 0 is lower
pub hundred-lower : (p q : ℕ) → p + 100 ≤ q → q ≤ one → side_discount q false < side_discount p false
unfolding side_discount
hundred-lower p q h l =
    fourth-grows (series false (term p)) (series false (term q))
    (omega (arith, alternating-falls p q (omega arith) l))
    (series-bounds q false l).0

pub above_most : (q : ℕ) → q ≤ one → side_discount q false ≤ one
unfolding side_discount
above_most q h = fourth-most (series false (term q)) (alternating-within-one q h)

-- term 1 is y
term-one : (y : ℕ) → term y 1 ≡ y
unfolding term round_down
term-one y = omega arith

alternating-line : (q : ℕ) → q ≤ one → one ≤ series false (term q) + q
alternating-line q h =
    omega (
      arith,
      rounded-whole q h,
      sum-shift 6 (even (term q)),
      sum-shift 5 (odd (term q)),
      sum-le 5 (λ i. odd (term q) (suc i)) (λ i. even (term q) (suc i)) (λ i l. after i),
      sum_grow 6 5 (λ i. even (term q) (suc i)) (lit≤ tt),
      term-zero q,
      term-one q,
    )
  where
    after : (i : ℕ) → term q (2 * suc i + 1) ≤ term q (2 * suc i)
    after i = rw (add-one (2 * suc i)) (term-falls q (2 * suc i) h)

-- F is never below the line one - y
pub above-line : (q : ℕ) → 2 * q ≤ one → one ≤ side_discount q false + 4 * q
unfolding side_discount fourth_power
above-line q h =
    let s : ℕ = series false (term q) in
    let first : one ≤ square_down s + 2 * q = line-squared (series false (term q)) q (omega arith) (alternating-line q (omega arith)) in
    omega (arith, line-squared (square_down (series false (term q))) (2 * q) h first)

-- ---- y below 0

sum-first-two : (y : ℕ) → series true (term y) ≡ one + y + sum 11 (λ k. term y (suc (suc k)))
unfolding series
sum-first-two y = omega (arith, sum-shift 12 (term y), sum-shift 11 (λ k. term y (suc k)), term-zero y, term-one y)

sum-grows : (p q : ℕ) → p < q → series true (term p) + 1 ≤ series true (term q)
sum-grows p q h =
    omega (
      arith,
      sum-first-two p,
      sum-first-two q,
      sum-le 11 (λ k. term p (suc (suc k))) (λ k. term q (suc (suc k))) (λ k l. term-grows p q (suc (suc k)) (omega arith)),
    )

-- F of y below 0 rises by 4 or more with each quotient
pub next-higher : (p q : ℕ) → p < q → side_discount p true + 4 ≤ side_discount q true
unfolding side_discount
next-higher p q h = fourth-climbs (series true (term q)) (series true (term p)) (sum-grows p q h) (sum-least p)

pub below-least : (q : ℕ) → one ≤ side_discount q true
unfolding side_discount
below-least q = fourth-least (series true (term q)) (sum-least q)

-- ---- both sides meet at one

pub at_zero : (below : Bool) → side_discount 0 below ≡ one
unfolding side_discount fourth_power square_down series sum term round_down
at_zero true = refl
at_zero false = refl

pub below_end : side_discount one true ≡ 54598149590
unfolding side_discount fourth_power square_down series sum term round_down
below_end = refl
