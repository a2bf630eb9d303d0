-- How far from the passing quotient the nearest one may stand. To the half of one, which is every discount from 0.135 on, F is lower 19 quotients
-- further, since the terms of the series grow by known numbers; beyond it a hundred further.
-- Assumes nothing.
use mathlib.Core.Path.{◌≡◌, ap, ◌∙◌}
use mathlib.Core.Bool.{false}
use Prim.Native.Nat.{ℕ, suc, ◌+◌, ◌*◌, ◌/◌, ◌≤◌, ◌<◌}
use native.Mathlib.Nat.{mul-le-mul, mul-le-mul_left, mul-le-mul_right, div-lt_iff_lt-mul, lt-div-mul-add, le_dest, div-le_of_le-mul}
use native.Mathlib.Omega.{arith}
use lib.Dec.{lit≤}
use Rattle.arithmetic.specs.Rounding.{one, round_down}
use Rattle.arithmetic.specs.Sum.{sum}
use Rattle.arithmetic.proofs.Numbers.{by_order}
use Rattle.factor.specs.Series.{term, series}
use Rattle.factor.proofs.SeriesLaws.{term-zero, term-falls, term-grows, rounded-whole}
use Rattle.continuous.specs.Continuous.{square_down, fourth_power, side_discount}
use Rattle.continuous.proofs.Squares.{square-grows}
use Rattle.continuous.proofs.Sides.{hundred-lower}
use borrow.Author.Tests.{lt-ltb, le-ltb}
use Rattle.continuous_rate.specs.inside.Search.{reach_of}

-- a product that grows by at most c divisors has a quotient that grows by at most c
quotient : (x y m c : ℕ) → 0 < m → x ≤ y + c * m → x / m ≤ y / m + c
quotient x y m c pos h =
    let below : x < (y / m + c + 1) * m = omega (arith, lt-div-mul-add {a = y} pos) in
    let less : x / m < y / m + c + 1 = (div-lt_iff_lt-mul pos).1 below in
    omega arith

-- the next term at q, where this one at q is at most e above that at p
step :
    (p q d k e c : ℕ) → q ≤ p + d → term q k ≤ term p k + e → term p k * d + e * q ≤ c * (suc k * one) → term q (suc k) ≤ term p (suc k) + c
unfolding term round_down
step p q d k e c hq hu hr =
    quotient (term q k * q) (term p k * p) (suc k * one) c (omega arith)
    (omega (arith, mul-le-mul_right q hu, mul-le-mul_left (term p k) hq, hr))

term-one : (y : ℕ) → term y 1 ≡ y
unfolding term round_down
term-one y = omega arith

term-two : (y : ℕ) → term y 2 ≡ y * y / 2000000000
unfolding term round_down
term-two y = ap (λ (x : ℕ). x * y / 2000000000) (term-one y)

-- the next term, where this one is at most t
bound-next : (y k t s : ℕ) → y ≤ 500000000 → term y k ≤ t → t * 500000000 ≤ s * (suc k * one) → term y (suc k) ≤ s
unfolding term round_down
bound-next y k t s h ht hs = div-le_of_le-mul (suc k * one) (omega (arith, mul-le-mul ht h, hs))

-- two quotients p and p + d
module _ (p d : ℕ) (few : d ≤ 99) (half : p + d ≤ 500000000) where
  abbrev q : ℕ
  q = p + d

  squares : q * q ≤ p * p + d * 1000000000
  squares = let sum : p + q ≤ 1000000000 = omega arith in omega (arith, mul-le-mul_left d sum)

  two : 2 * term q 2 ≤ 2 * term p 2 + d + 1
  two = omega (arith, term-two p, term-two q, squares)

  most-two : term p 2 ≤ 125000000
  most-two = omega (arith, term-two p, mul-le-mul {n₁ = p} {m₁ = p} {n₂ = 500000000} {m₂ = 500000000} (omega arith) (omega arith))

  most-three : term p 3 ≤ 20833334
  most-three = bound-next p 2 125000000 20833334 (omega arith) most-two (lit≤ tt)

  most-four : term p 4 ≤ 2604167
  most-four = bound-next p 3 20833334 2604167 (omega arith) most-three (lit≤ tt)

  falls : (k : ℕ) → term p (suc k) ≤ term p k
  falls k = term-falls p k (omega arith)

  grows : (k e t c : ℕ) → term q k ≤ term p k + e → term p k ≤ t → t * 99 + e * 500000000 ≤ c * (suc k * one) → term q (suc k) ≤ term p (suc k) + c
  grows k e t c hu ht hc =
      step p q d k e c (omega arith) hu (omega (arith, mul-le-mul ht few, mul-le-mul_left e half, hc))

  three : term q 3 ≤ term p 3 + 13
  three = grows 2 50 125000000 13 (omega (arith, two)) most-two (lit≤ tt)

  four : term q 4 ≤ term p 4 + 3
  four = grows 3 13 20833334 3 three most-three (lit≤ tt)

  five : term q 5 ≤ term p 5 + 1
  five = grows 4 3 2604167 1 four most-four (lit≤ tt)

  six : term q 6 ≤ term p 6 + 1
  six = grows 5 1 2604167 1 five (omega (arith, most-four, falls 4)) (lit≤ tt)

  seven : term q 7 ≤ term p 7 + 1
  seven = grows 6 1 2604167 1 six (omega (arith, most-four, falls 4, falls 5)) (lit≤ tt)

  eight : term q 8 ≤ term p 8 + 1
  eight = grows 7 1 2604167 1 seven (omega (arith, most-four, falls 4, falls 5, falls 6)) (lit≤ tt)

  nine : term q 9 ≤ term p 9 + 1
  nine = grows 8 1 2604167 1 eight (omega (arith, most-four, falls 4, falls 5, falls 6, falls 7)) (lit≤ tt)

  ten : term q 10 ≤ term p 10 + 1
  ten = grows 9 1 2604167 1 nine (omega (arith, most-four, falls 4, falls 5, falls 6, falls 7, falls 8)) (lit≤ tt)

  eleven : term q 11 ≤ term p 11 + 1
  eleven = grows 10 1 2604167 1 ten (omega (arith, most-four, falls 4, falls 5, falls 6, falls 7, falls 8, falls 9)) (lit≤ tt)

  twelve : term q 12 ≤ term p 12 + 1
  twelve = grows 11 1 2604167 1 eleven (omega (arith, most-four, falls 4, falls 5, falls 6, falls 7, falls 8, falls 9, falls 10)) (lit≤ tt)

  odd-grows : (k : ℕ) → term p k ≤ term q k
  odd-grows k = term-grows p q k (omega arith)

  -- the even terms grow by half of d and 7, the odd ones by d or more
  fell : 2 * series false (term q) + d ≤ 2 * series false (term p) + 15
  unfolding sum
  fell =
      omega (
        arith,
        rounded-whole p (omega arith),
        rounded-whole q (omega arith),
        term-zero p,
        term-zero q,
        term-one p,
        term-one q,
        two,
        four,
        six,
        eight,
        ten,
        twelve,
        odd-grows 3,
        odd-grows 5,
        odd-grows 7,
        odd-grows 9,
        odd-grows 11,
      )

-- the series is at least the half of one
at-least-half : (y : ℕ) → y ≤ 500000000 → 500000000 ≤ series false (term y)
unfolding sum
at-least-half y h =
    omega (
      arith,
      rounded-whole y (omega arith),
      term-zero y,
      term-one y,
      term-falls y 2 (omega arith),
      term-falls y 4 (omega arith),
      term-falls y 6 (omega arith),
      term-falls y 8 (omega arith),
      term-falls y 10 (omega arith),
    )

quarter : (t : ℕ) → 500000000 ≤ t → 250000000 ≤ square_down t
unfolding square_down round_down
quarter t l = omega (arith, mul-le-mul l l)

-- two values that differ by 2 or more, from the half of one on
half-grows : (s t : ℕ) → t + 2 ≤ s → 500000000 ≤ t → fourth_power t < fourth_power s
unfolding fourth_power
half-grows s t h l =
    let first : square_down t + 2 ≤ square_down s = square-grows s t 2 2 h (omega arith) in
    omega (arith, square-grows (square_down s) (square_down t) 2 1 first (omega (arith, quarter t l)))

-- 19 quotients further, F of y above 0 is lower, to the half of one
near-lower : (p q : ℕ) → p + 19 ≤ q → q ≤ 500000000 → side_discount q false < side_discount p false
unfolding side_discount
near-lower p q h l =
    by_order (p + 100) q
    (λ far. hundred-lower p q far (omega arith))
    (λ close. let (d, e) = le_dest h in by_difference (19 + d) (omega arith) (omega arith) (omega arith))
  where
    by_difference : (d : ℕ) → q ≡ p + d → 19 ≤ d → d ≤ 99 → fourth_power (series false (term q)) < fourth_power (series false (term p))
    by_difference d e far few =
        half-grows (series false (term p)) (series false (term q))
        (rw e (omega (arith, fell p d few (omega arith))))
        (at-least-half q l)

-- the reach of a quotient
module _ (q r : ℕ) (e : r ≡ reach_of q) where
  short : q < 499999000 → r ≡ 19
  unfolding reach_of
  short h = e ∙ rw (lt-ltb q 499999000 h)

  long : 499999000 ≤ q → r ≡ 100
  unfolding reach_of
  long h = e ∙ rw (le-ltb q 499999000 h)

  pub reach-most : r ≤ 100
  reach-most = by_order 499999000 q (λ g. omega (arith, long g)) (λ g. omega (arith, short g))

  pub reach-low : q ≤ one → (k : ℕ) → k + r ≤ q → side_discount q false < side_discount k false
  reach-low top k h =
      by_order 499999000 q
      (λ g. hundred-lower k q (omega (arith, long g)) top)
      (λ g. near-lower k q (omega (arith, short g)) (omega arith))

  pub reach-high : (k : ℕ) → q + 1 + r ≤ k → k ≤ one → side_discount k false < side_discount (q + 1) false
  reach-high k h top =
      by_order 499999000 q
      (λ g. hundred-lower (q + 1) k (omega (arith, long g)) top)
      (λ g. by_order k 500000000
      (λ l. near-lower (q + 1) k (omega (arith, short g)) l)
      (λ l. hundred-lower (q + 1) k (omega arith) top))
