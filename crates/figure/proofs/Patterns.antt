-- The value of a bit pattern, and what an accepted figure's pattern is.
-- Assumes nothing.
use mathlib.Core.Path.{◌≡◌, refl, sym, ◌∙◌, ap, subst}
use mathlib.Core.Bool.{Bool, true, false, cond}
use Prim.Native.Nat.{ℕ, zero, suc, ◌+◌, ◌-◌, ◌*◌, ◌/◌, ◌%◌, ◌^◌, ◌≤◌, ◌<◌}
use native.Mathlib.Nat.{lt_irrefl, lt_of_le_of_lt, le_trans, le-add_right, mul-one, mul-le-mul_right, le_of_mul-le-mul_right, div-lt_iff_lt-mul}
use native.Mathlib.Omega.{arith}
use borrow.Author.Tests.{ltb-false, ltb-true, ne_eqb, eq-eqb, eqb-true, eqb-false}
use lib.Dec.{ltb, leb, eqb, lit<}
use lib.IntN.{pos}
use lib.Pow.{pow-add, pow_pos, pow_mono}
use lib.Ieee.{Float, nan, inf, fin, up, down, binary64, of_bits, of_fields, ne, lt, eq}
use lib.Ieee.Exact.{HasValue, odd_sign}
use lib.Ieee.Fits.{down_pos}
use Rattle.arithmetic.specs.Rounding.{one, nearest}
use Rattle.figure.specs.Figure.{magnitude_of, negative, beyond}
use Rattle.arithmetic.proofs.RoundingLaws.{nearest-same}

-- ---- what a value fixes

pub value-magnitude : (v : Float) (s : Bool) (a c : ℕ) → 0 < c → HasValue v s a c → magnitude_of v ≡ nearest (a * one) c
unfolding magnitude_of
value-magnitude nan s a c p h = absurd h
value-magnitude (inf t) s a c p h = absurd h
value-magnitude (fin t m e) s a c p h =
    nearest-same (m * up e * one) (down e) (a * one) c (down_pos e) p (scaled (m * up e) h.1)
  where
    scaled : (n : ℕ) → n * c ≡ a * down e → n * one * c ≡ a * one * down e
    scaled n q = omega (arith, q)

pub value-sign : (v : Float) (s : Bool) (a c : ℕ) → HasValue v s a c → negative v ≡ s
value-sign nan s a c h = absurd h
value-sign (inf t) s a c h = absurd h
value-sign (fin t m e) s a c h = h.0

pub value-bound : (v : Float) (s : Bool) (a c : ℕ) → HasValue v s a c → beyond v ≡ false → a ≤ 10 * c
unfolding beyond
value-bound nan s a c h b = absurd h
value-bound (inf t) s a c h b = absurd h
value-bound (fin t m e) s a c h b =
    le_of_mul-le-mul_right (scaled (m * up e) h.1 (mul-le-mul_right c (ltb-false (10 * down e) (m * up e) b))) (down_pos e)
  where
    scaled : (n : ℕ) → n * c ≡ a * down e → n * c ≤ 10 * down e * c → a * down e ≤ 10 * c * down e
    scaled n q r = omega (arith, q, r)

-- an accepted size is at most 10 × 10^9
pub magnitude-bound : (v : Float) → beyond v ≡ false → magnitude_of v ≤ 10000000000
unfolding beyond magnitude_of nearest
magnitude-bound nan b = omega arith
magnitude-bound (inf t) b = omega arith
magnitude-bound (fin t m e) b = bound (m * up e) (down e) (down_pos e) (ltb-false (10 * down e) (m * up e) b)
  where
    bound : (n d : ℕ) → 0 < d → n ≤ 10 * d → (2 * (n * 1000000000) + d) / (2 * d) ≤ 10000000000
    bound n d p q = omega (arith, (div-lt_iff_lt-mul {k = 2 * d} {x = 2 * (n * 1000000000) + d} {y = 10000000001} (omega arith)).1 (omega arith))

-- ---- the value of a bit pattern

module _ (s : Bool) (t : ℕ) where
  zero_field : HasValue (of_fields binary64 s 0 t) s (t * 2 ^ 0) (2 ^ 1074)
  unfolding of_fields
  zero_field = odd_sign 53 s t 0 1074

  later-field : (x : ℕ) → suc x < 2047 → HasValue (of_fields binary64 s (suc x) t) s ((2 ^ 52 + t) * 2 ^ x) (2 ^ 1074)
  unfolding of_fields
  later-field x h = rw (ne_eqb (suc x) 2047 (λ q. omega arith)) (odd_sign 53 s (2 ^ 52 + t) x 1074)

-- the exponent's field and the digits of a pattern
abbrev pub field_of : ℕ → ℕ
field_of b = b % 2 ^ 63 / 2 ^ 52

abbrev pub digits_of : ℕ → ℕ
digits_of b = b % 2 ^ 52

pub pattern-zero : (b : ℕ) → field_of b ≡ 0 → magnitude_of (of_bits binary64 b) ≡ nearest (digits_of b * one) (2 ^ 1074)
unfolding of_bits
pattern-zero b e =
    ap (λ (x : ℕ). magnitude_of (of_fields binary64 (leb (2 ^ 63) b) x (digits_of b))) e
    ∙ value-magnitude (of_fields binary64 (leb (2 ^ 63) b) 0 (digits_of b)) (leb (2 ^ 63) b) (digits_of b * 2 ^ 0) (2 ^ 1074) (pow_pos 1074)
    (zero_field (leb (2 ^ 63) b) (digits_of b))
    ∙ ap (λ (a : ℕ). nearest (a * one) (2 ^ 1074)) (mul-one (digits_of b))

pub pattern-later : (b : ℕ) (x : ℕ) → field_of b ≡ suc x → suc x ≤ 1026 →
    magnitude_of (of_bits binary64 b) ≡ nearest ((digits_of b + 2 ^ 52) * one) (2 ^ (1075 - suc x))
unfolding of_bits
pattern-later b x e h =
    ap (λ (y : ℕ). magnitude_of (of_fields binary64 (leb (2 ^ 63) b) y (digits_of b))) e
    ∙ value-magnitude (of_fields binary64 (leb (2 ^ 63) b) (suc x) (digits_of b)) (leb (2 ^ 63) b) ((2 ^ 52 + digits_of b) * 2 ^ x) (2 ^ 1074)
    (pow_pos 1074) (later-field (leb (2 ^ 63) b) (digits_of b) x (omega arith))
    ∙ nearest-same ((2 ^ 52 + digits_of b) * 2 ^ x * one) (2 ^ 1074) ((digits_of b + 2 ^ 52) * one) (2 ^ (1075 - suc x)) (pow_pos 1074) (pow_pos (1075 - suc x))
    (moved (digits_of b) (2 ^ x) (2 ^ (1075 - suc x)) (2 ^ 1074) (sym (pow-add 2 x (1075 - suc x)) ∙ ap (λ (k : ℕ). 2 ^ k) together))
  where
    together : x + (1075 - suc x) ≡ 1074
    together = omega arith

    moved : (t u v w : ℕ) → u * v ≡ w → (4503599627370496 + t) * u * 1000000000 * v ≡ (t + 4503599627370496) * 1000000000 * w
    moved t u v w q = rw (← q) (omega arith)

-- ---- which patterns are accepted

true≢false : true ≡ false → ⊥
true≢false q = let z : ◌≡◌ {A = ℕ} 0 1 = cc in omega arith

module _ (s : Bool) (t : ℕ) where
  special-field : (x : ℕ) → suc x ≡ 2047 → beyond (of_fields binary64 s (suc x) t) ≡ true
  unfolding of_fields beyond
  special-field x e = rw (eq-eqb (suc x) 2047 e) (either (eqb t 0))
    where
      either : (z : Bool) → beyond (cond z (inf s) nan) ≡ true
      either true = refl
      either false = refl

  large-field : (x : ℕ) → suc x < 2047 → 1026 < suc x → beyond (of_fields binary64 s (suc x) t) ≡ false → ⊥
  large-field x p q r =
      lt_irrefl (2 ^ 1078)
      (lt_of_le_of_lt (pow_mono {i = 1078} {j = 52 + x} (omega arith))
      (lt_of_le_of_lt (subst (λ (y : ℕ). y ≤ 10 * 2 ^ 1074) (sym (pow-add 2 52 x)) less) (lit< tt)))
    where
      less : 2 ^ 52 * 2 ^ x ≤ 10 * 2 ^ 1074
      less =
          le_trans (mul-le-mul_right (2 ^ x) (le-add_right (2 ^ 52) t))
          (value-bound (of_fields binary64 s (suc x) t) s ((2 ^ 52 + t) * 2 ^ x) (2 ^ 1074) (later-field s t x p) r)

  small-field : (x : ℕ) → x < 2048 → beyond (of_fields binary64 s x t) ≡ false → x ≤ 1026
  small-field zero p r = omega arith
  small-field (suc x) p r = by-test (ltb 1026 (suc x)) refl
    where
      below : (suc x ≡ 2047 → ⊥) → suc x < 2047
      below n = omega arith

      by_last : (z : Bool) → eqb (suc x) 2047 ≡ z → 1026 < suc x → suc x ≤ 1026
      by_last true e g = absurd (true≢false (sym (special-field x (eqb-true (suc x) 2047 e)) ∙ r))
      by_last false e g = absurd (large-field x (below (eqb-false (suc x) 2047 e)) g r)

      by-test : (z : Bool) → ltb 1026 (suc x) ≡ z → suc x ≤ 1026
      by-test true e = by_last (eqb (suc x) 2047) refl (ltb-true 1026 (suc x) e)
      by-test false e = ltb-false 1026 (suc x) e

  -- of an accepted pattern the sign is s
  field-sign : (x : ℕ) → x ≤ 1026 → negative (of_fields binary64 s x t) ≡ s
  field-sign zero p = value-sign (of_fields binary64 s 0 t) s (t * 2 ^ 0) (2 ^ 1074) (zero_field s t)
  field-sign (suc x) p = value-sign (of_fields binary64 s (suc x) t) s ((2 ^ 52 + t) * 2 ^ x) (2 ^ 1074) (later-field s t x (omega arith))

pub accepted-field : (b : ℕ) → beyond (of_bits binary64 b) ≡ false → field_of b ≤ 1026
unfolding of_bits
accepted-field b h = small-field (leb (2 ^ 63) b) (digits_of b) (field_of b) (omega arith) h

pub accepted-sign : (b : ℕ) → field_of b ≤ 1026 → negative (of_bits binary64 b) ≡ leb (2 ^ 63) b
unfolding of_bits
accepted-sign b h = field-sign (leb (2 ^ 63) b) (digits_of b) (field_of b) h

-- ---- what the tests on the float say

abbrev pub ten : Float
ten = fin false 5 (pos 1)

abbrev pub minus-ten : Float
minus-ten = fin true 5 (pos 1)

pub above : (x : Float) → lt ten x ≡ true → beyond x ≡ true
unfolding lt beyond
above nan e = refl
above (inf s) e = refl
above (fin false m d) e = rw mul-one at e
above (fin true m d) e = absurd (true≢false (sym e))

-- where the first two tests fail, the third decides
pub below : (x : Float) → ne x x ≡ false → lt ten x ≡ false → lt x minus-ten ≡ beyond x
unfolding ne eq lt beyond
below nan n e = absurd (true≢false n)
below (inf false) n e = absurd (true≢false e)
below (inf true) n e = refl
below (fin false m d) n e = sym (rw mul-one at e)
below (fin true m d) n e = rw mul-one refl
