-- Squaring twice: order, bounds, and the second square in two parts.
-- Assumes nothing.
use mathlib.Core.Path.{◌≡◌, refl, sym, ◌∙◌, ap}
use Prim.Native.Nat.{ℕ, ◌+◌, ◌*◌, ◌/◌, ◌%◌, ◌≤◌, ◌<◌}
use native.Mathlib.Nat.{mul-le-mul, le_dest}
use native.Mathlib.Omega.{arith}
use lib.Dec.{lit≤}
use Rattle.arithmetic.specs.Rounding.{one, round_down}
use Rattle.continuous.specs.Continuous.{square_down, fourth_power}

-- a square grows by at least c where its root, at least t, grows by at least d and 2 t d ≥ c × one
pub square-grows : (s t d c : ℕ) → t + d ≤ s → c * one ≤ 2 * (t * d) → square_down t + c ≤ square_down s
unfolding square_down round_down
square-grows s t d c h g =
    let (r, e) = le_dest h in
    let more : t * t + c * one ≤ s * s = rw (← e) (omega (arith, g)) in
    omega (arith, more)

square-least : (s a c : ℕ) → a ≤ s → c * one ≤ a * a → c ≤ square_down s
unfolding square_down round_down
square-least s a c h g = omega (arith, mul-le-mul h h)

square-most : (s : ℕ) → s ≤ one → square_down s ≤ one
unfolding square_down round_down
square-most s h = omega (arith, mul-le-mul h h)

-- two values that differ by 6 or more, from 0.36 on
pub fourth-grows : (s t : ℕ) → t + 6 ≤ s → 360000000 ≤ t → fourth_power t < fourth_power s
unfolding fourth_power
fourth-grows s t h l =
    let first : square_down t + 4 ≤ square_down s = square-grows s t 6 4 h (omega arith) in
    let size : 129600000 ≤ square_down t = square-least t 360000000 129600000 l (lit≤ tt) in
    omega (arith, square-grows (square_down s) (square_down t) 4 1 first (omega arith))

-- two values that differ by 1 or more, from one on
pub fourth-climbs : (s t : ℕ) → t + 1 ≤ s → one ≤ t → fourth_power t + 4 ≤ fourth_power s
unfolding fourth_power
fourth-climbs s t h l =
    let first : square_down t + 2 ≤ square_down s = square-grows s t 1 2 h (omega arith) in
    let size : one ≤ square_down t = square-least t one one l (lit≤ tt) in
    square-grows (square_down s) (square_down t) 2 4 first (omega arith)

-- one stays one, and either side of it stays where it is
pub fourth-most : (s : ℕ) → s ≤ one → fourth_power s ≤ one
unfolding fourth_power
fourth-most s h = square-most (square_down s) (square-most s h)

pub fourth-least : (s : ℕ) → one ≤ s → one ≤ fourth_power s
unfolding fourth_power
fourth-least s h = square-least (square_down s) one one (square-least s one one h (lit≤ tt)) (lit≤ tt)

-- a value of at least one - q has a square of at least one - 2 q
pub line-squared : (s q : ℕ) → q ≤ one → one ≤ s + q → one ≤ square_down s + 2 * q
unfolding square_down round_down
line-squared s q h l =
    let (d, e) = le_dest h in
    let least : d ≤ s = omega arith in
    let whole : (q + d) * one ≡ one * one = ap (λ (x : ℕ). x * one) e in
    let corner : (q + d) * q ≡ one * q = ap (λ (x : ℕ). x * q) e in
    let side : (q + d) * d ≡ one * d = ap (λ (x : ℕ). x * d) e in
    omega (arith, mul-le-mul least least)

-- ---- the second square, by the whole and the rest of the first

by_parts : (h l : ℕ) → h * h * one + 2 * h * l + l * l / one ≡ (h * one + l) * (h * one + l) / one
by_parts h l = omega arith

square-by-parts : (a : ℕ) → a / one * (a / one) * one + 2 * (a / one) * (a % one) + a % one * (a % one) / one ≡ a * a / one
square-by-parts a =
    let whole : a ≡ a / one * one + a % one = omega arith in
    by_parts (a / one) (a % one) ∙ ap (λ (x : ℕ). x * x / one) (sym whole)

pub fourth-by-parts :
    (s : ℕ) →
    s * s / one / one * (s * s / one / one) * one + 2 * (s * s / one / one) * (s * s / one % one)
    + s * s / one % one * (s * s / one % one) / one
    ≡ fourth_power s
unfolding fourth_power square_down round_down
fourth-by-parts s = square-by-parts (s * s / one)

-- the second square at once, where it fits
pub fourth-at-once : (s : ℕ) → s * s / one * (s * s / one) / one ≡ fourth_power s
unfolding fourth_power square_down round_down
fourth-at-once s = refl

pub half-word-fits : (a : ℕ) → a ≤ 4294967295 → a * a < 18446744073709551616
half-word-fits a h = omega (arith, mul-le-mul h h)

-- the parts fit
pub record Parts (s : ℕ) : Type 0 where
  pub first : s * s ≤ 7398400000000000000
  pub whole : s * s / one / one * (s * s / one / one) ≤ 49
  pub mixed : s * s / one / one * (s * s / one % one) ≤ 7000000000
  pub rest : s * s / one % one * (s * s / one % one) ≤ 1000000000000000000

pub parts : (s : ℕ) → s ≤ 2720000000 → Parts s
parts s h =
    let first : s * s ≤ 7398400000000000000 = omega (arith, mul-le-mul h h) in
    let high : s * s / one / one ≤ 7 = omega arith in
    let low : s * s / one % one ≤ 1000000000 = omega arith in
    record { first = first; whole = mul-le-mul high high; mixed = mul-le-mul high low; rest = mul-le-mul low low }
