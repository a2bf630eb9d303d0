-- Laws of rounding, multiplied out over whole numbers.
-- Assumes nothing.
use mathlib.Core.Path.{◌≡◌, refl, sym, ◌∙◌, ap}
use Prim.Native.Nat.{ℕ, zero, suc, ◌+◌, ◌-◌, ◌*◌, ◌/◌, ◌%◌, ◌≤◌, ◌<◌}
use native.Mathlib.Nat.{le_antisymm, le-mul_of_pos_right, mul_assoc, mul-le-mul_right}
use native.Mathlib.Nat.{mul-div-mul_left, mul-div_cancel_left, mul-div-le, mul-add-div, add-mul-div_left, div-div-eq-div-mul, div-add-mod}
use native.Mathlib.Nat.{div-eq_of_lt, div-lt_iff_lt-mul, lt-div-mul-add, le-div_iff_mul-le}
use native.Mathlib.Omega.{arith}
use lib.IntN.{ℤ, pos, negsuc, neg_ℤ, nat_abs}
use lib.Ieee.Nearest.{div_same}
use Rattle.arithmetic.specs.Rounding.{one, round_down, round_up, nearest, nearest_signed, Rounds}

module _ (a d : ℕ) (h : 0 < d) where
  -- down: at most the quotient, and less than one below it
  pub down_le : d * round_down a d ≤ a
  unfolding round_down
  down_le = mul-div-le a d

  pub down-gt : a < d * round_down a d + d
  unfolding round_down
  down-gt = omega (arith, lt-div-mul-add {a = a} h)

  -- up: at least the quotient, and less than one above it
  pub up-ge : a ≤ d * round_up a d
  unfolding round_up
  up-ge = omega (arith, lt-div-mul-add {a = a + (d - 1)} h)

  -- nearest: at most a half above the quotient, and less than a half below it
  pub nearest-le-half : 2 * (d * nearest a d) ≤ 2 * a + d
  unfolding nearest
  nearest-le-half = omega (arith, mul-div-le (2 * a + d) (2 * d))

  pub nearest-gt-half : 2 * a < 2 * (d * nearest a d) + d
  unfolding nearest
  nearest-gt-half = omega (arith, lt-div-mul-add {a = 2 * a + d} {b = 2 * d} (omega arith))

-- division keeps order
div-monotone : (a b d : ℕ) → 0 < d → a ≤ b → a / d ≤ b / d
div-monotone a b d p h = (le-div_iff_mul-le {k = d} {x = a / d} {y = b} p).1 (omega (arith, mul-div-le a d))

pub down-rounds : Rounds round_down 0 2
unfolding round_down
down-rounds =
    record {
      above = λ a d h. omega (arith, down_le a d h);
      below = λ a d h. omega (arith, down-gt a d h);
      monotone = div-monotone;
      exact = λ q d h. mul-div_cancel_left q h;
    }

nearest-exact : (q d : ℕ) → 0 < d → (2 * (d * q) + d) / (2 * d) ≡ q
nearest-exact q d h =
    let p : 0 < 2 * d = omega arith in
    le_antisymm
    (let l : (2 * (d * q) + d) / (2 * d) < suc q = (div-lt_iff_lt-mul p).1 (omega arith) in omega arith)
    ((le-div_iff_mul-le p).1 (omega arith))

pub nearest-rounds : Rounds nearest 1 1
unfolding nearest
nearest-rounds =
    record {
      above = λ a d h. omega (arith, nearest-le-half a d h);
      below = λ a d h. omega (arith, nearest-gt-half a d h);
      monotone = λ a b d p h. div-monotone (2 * a + d) (2 * b + d) (2 * d) (omega arith) (omega arith);
      exact = nearest-exact;
    }

-- up keeps order and leaves a whole quotient
pub up-monotone : (a b d : ℕ) → 0 < d → a ≤ b → round_up a d ≤ round_up b d
unfolding round_up
up-monotone a b d p h = div-monotone (a + (d - 1)) (b + (d - 1)) d p (omega arith)

pub up-exact : (q d : ℕ) → 0 < d → round_up (d * q) d ≡ q
unfolding round_up
up-exact q d h =
    le_antisymm
    (let l : (d * q + (d - 1)) / d < suc q = (div-lt_iff_lt-mul h).1 (omega arith) in omega arith)
    ((le-div_iff_mul-le h).1 (omega arith))

-- divided by at least as much as it is multiplied by, up leaves no more than before
pub up-shrinks : (g a : ℕ) → g ≤ one → round_up (g * a) one ≤ a
unfolding round_up
up-shrinks g a h = omega (arith, mul-le-mul_right a h)

abs-negative : (n : ℕ) → nat_abs (neg_ℤ (pos n)) ≡ n
abs-negative zero = refl
abs-negative (suc n) = refl

pub nearest-magnitude : (z : ℤ) (d : ℕ) → nat_abs (nearest_signed z d) ≡ nearest (nat_abs z) d
unfolding nearest_signed
nearest-magnitude (pos a) d = refl
nearest-magnitude (negsuc a) d = abs-negative (nearest (suc a) d)

-- the nearest number of n / (2 g h), by a first division by g
pub nearest-by-parts : (n g h : ℕ) → 0 < g → 0 < h → nearest n (g * (h * 2)) ≡ (n / g + h) / (h * 2)
unfolding nearest
nearest-by-parts n g h pg ph =
    ap (λ (a : ℕ). a / (2 * (g * (h * 2)))) doubled
    ∙ mul-div-mul_left (n + g * h) (g * (h * 2)) two
    ∙ sym (div-div-eq-div-mul (n + g * h) g (h * 2))
    ∙ ap (λ (a : ℕ). a / (h * 2)) (add-mul-div_left n h pg)
  where
    doubled : 2 * n + g * (h * 2) ≡ 2 * (n + g * h)
    doubled = omega arith

    two : 0 < 2
    two = omega arith

-- the same fraction has the same nearest number
pub nearest-same : (a c b d : ℕ) → 0 < c → 0 < d → a * d ≡ b * c → nearest a c ≡ nearest b d
unfolding nearest
nearest-same a c b d pc pd e =
    div_same (2 * a + c) (2 * c) (2 * b + d) (2 * d) (omega arith) (omega arith) cross
  where
    cross : (2 * a + c) * (2 * d) ≡ (2 * b + d) * (2 * c)
    cross = omega (arith, e)

-- less than a half gives 0
pub nearest_zero : (a c : ℕ) → 2 * a < c → nearest a c ≡ 0
unfolding nearest
nearest_zero a c h = div-eq_of_lt (omega arith)

-- at most the whole dividend
pub nearest-le : (a c : ℕ) → 0 < c → nearest a c ≤ a
unfolding nearest
nearest-le a c p =
    omega (arith, (div-lt_iff_lt-mul {k = 2 * c} {x = 2 * a + c} {y = a + 1} (omega arith)).1 (omega (arith, le-mul_of_pos_right {m = c} a p)))

-- a product divided by g, the first factor taken in two parts
pub product-by-parts : (s one g : ℕ) → 0 < g → s / g * one + s % g * one / g ≡ s * one / g
product-by-parts s one g pg =
    sym (mul-add-div pg (s / g * one) (s % g * one)) ∙ ap (λ (a : ℕ). a / g) joined
  where
    joined : g * (s / g * one) + s % g * one ≡ s * one
    joined =
        ap (λ (a : ℕ). a + s % g * one) (sym (mul_assoc g (s / g) one))
        ∙ omega arith
        ∙ ap (λ (a : ℕ). a * one) (div-add-mod s g)

-- the bounds of a quotient with a sign, by its magnitude
pub nearest-signed-bounds : (z : ℤ) (d : ℕ) → 0 < d →
    (2 * (d * nat_abs (nearest_signed z d)) ≤ 2 * nat_abs z + d) × (2 * nat_abs z < 2 * (d * nat_abs (nearest_signed z d)) + d)
nearest-signed-bounds z d h = rw (nearest-magnitude z d) (nearest-le-half (nat_abs z) d h, nearest-gt-half (nat_abs z) d h)
