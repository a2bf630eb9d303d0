-- The answer's cases, from the tests on the float and from its bits, and what a caller learns from an answer.
-- Assumes nothing.
use mathlib.Core.Path.{◌≡◌, refl, sym, ◌∙◌, ap, ap₂, subst}
use mathlib.Core.Bool.{Bool, true, false, not, cond}
use Prim.Native.Nat.{ℕ, zero, suc, ◌%◌, ◌^◌, ◌≤◌, ◌<◌}
use lib.Dec.{T, leb}
use lib.IntN.{pos, neg_ℤ, nat_abs}
use native.Mathlib.Omega.{arith}
use borrow.Author.Tests.{le-leb, lt-leb, lt-ltb, le-ltb}
use lib.Ieee.{Float, nan, inf, fin, binary64, fits, of_bits, to_bits, is_nan, nan_bits}
use lib.Ieee.Bits.{of_bits-to_bits, nan_bits_is, nan_bits_above}
use mir.Syntax.{w64}
use mir.Val.{to_z, of_z}
use mir.Facts.{to_z-of_z}
use Rattle.arithmetic.proofs.Signed.{fits-by-size}
use Rattle.figure.specs.Figure.{Figure}
use Rattle.figure.specs.Figure.{magnitude_of, negative, beyond, signed, billionths_of, figure_of, refused_figure, accepted_figure, pattern_float}
use Rattle.figure.proofs.Patterns.{accepted-field, accepted-sign, magnitude-bound, field_of}

pub figure-refused : (x : Float) → beyond x ≡ true → figure_of x ≡ refused_figure
unfolding figure_of
figure-refused x h = ap (λ (b : Bool). cond b refused_figure (accepted_figure (billionths_of x))) h

pub figure-accepted : (x : Float) → beyond x ≡ false → figure_of x ≡ accepted_figure (billionths_of x)
unfolding figure_of
figure-accepted x h = ap (λ (b : Bool). cond b refused_figure (accepted_figure (billionths_of x))) h

-- an accepted figure is no NaN
pub not-nan : (x : Float) → beyond x ≡ false → T (not (is_nan x))
unfolding beyond is_nan
not-nan nan e = let z : ◌≡◌ {A = ℕ} 0 1 = cc in let none : ⊥ = omega arith in absurd none
not-nan (inf s) e = tt
not-nan (fin s m d) e = tt

-- x, of the format, is the value of its own bits
module _ (x : Float) (f : T (fits binary64 x)) (h : beyond x ≡ false) where
  same : of_bits binary64 (to_bits binary64 x) ≡ x
  same = of_bits-to_bits binary64 x f

  pub field-small : field_of (to_bits binary64 x) ≤ 1026
  field-small = accepted-field (to_bits binary64 x) (ap beyond same ∙ h)

  sign-is : negative x ≡ leb (2 ^ 63) (to_bits binary64 x)
  sign-is = sym (ap negative same) ∙ accepted-sign (to_bits binary64 x) field-small

  module _ (m : ℕ) (e : m ≡ magnitude_of (of_bits binary64 (to_bits binary64 x))) where
    size_is : m ≡ magnitude_of x
    size_is = e ∙ ap magnitude_of same

    pub size_small : m ≤ 10000000000
    size_small = subst (λ (k : ℕ). k ≤ 10000000000) (sym size_is) (magnitude-bound x h)

    pub plus : to_bits binary64 x < 2 ^ 63 → billionths_of x ≡ pos m
    unfolding billionths_of
    plus p = ap₂ signed (sign-is ∙ lt-leb (2 ^ 63) (to_bits binary64 x) p) (sym size_is)

    pub minus : 2 ^ 63 ≤ to_bits binary64 x → billionths_of x ≡ neg_ℤ (pos m)
    unfolding billionths_of
    minus p = ap₂ signed (sign-is ∙ le-leb (2 ^ 63) (to_bits binary64 x) p) (sym size_is)

-- an accepted figure is at most 10 × one in size
pub billionths-bound : (x : Float) → beyond x ≡ false → nat_abs (billionths_of x) ≤ 10000000000
unfolding billionths_of
billionths-bound x h = by_sign (negative x) (magnitude_of x) (magnitude-bound x h)
  where
    by_sign : (s : Bool) (n : ℕ) → n ≤ 10000000000 → nat_abs (signed s n) ≤ 10000000000
    by_sign false n p = p
    by_sign true zero p = p
    by_sign true (suc n) p = p

-- What a caller learns: number 0 is an accepted figure, any other is a refusal.
module _ (x : Float) (r : Figure) (e : r ≡ figure_of x) where
  pub number-accepted : r.number ≡ 0 → beyond x ≡ false
  unfolding figure_of
  number-accepted n = by-test (beyond x) (sym (ap (λ (q : Figure). q.number) e) ∙ n)
    where
      by-test : (b : Bool) → (cond b refused_figure (accepted_figure (billionths_of x))).number ≡ 0 → b ≡ false
      by-test true q = let none : ⊥ = omega arith in absurd none
      by-test false q = refl

  pub number-refused : (r.number ≡ 0 → ⊥) → beyond x ≡ true
  unfolding figure_of
  number-refused n = by-test (beyond x) (λ q. n (ap (λ (q : Figure). q.number) e ∙ q))
    where
      by-test : (b : Bool) → ((cond b refused_figure (accepted_figure (billionths_of x))).number ≡ 0 → ⊥) → b ≡ true
      by-test true q = refl
      by-test false q = absurd (q refl)

  pub value-accepted : r.number ≡ 0 → r.value ≡ billionths_of x
  value-accepted n = ap (λ (q : Figure). q.value) (e ∙ figure-accepted x (number-accepted n))

  -- the value of any answer is at most 10 × one in size
  pub value-bound : nat_abs r.value ≤ 10000000000
  unfolding figure_of
  value-bound = subst (λ (q : Figure). nat_abs q.value ≤ 10000000000) (sym e) (by-test (beyond x) refl)
    where
      by-test : (b : Bool) → beyond x ≡ b → nat_abs (cond b refused_figure (accepted_figure (billionths_of x))).value ≤ 10000000000
      by-test true h = omega arith
      by-test false h = billionths-bound x h

  -- read back from its bits, it is the same
  pub value-back : to_z w64 (of_z w64 r.value) ≡ r.value
  value-back = to_z-of_z (fits-by-size r.value (omega (arith, value-bound)))

-- ---- patterns of a NaN

pub nan_pattern : (b : ℕ) → 9218868437227405312 < b % 2 ^ 63 → is_nan (of_bits binary64 b) ≡ true
nan_pattern b h = sym (nan_bits_is binary64 b) ∙ nan_bits_above binary64 b ∙ lt-ltb 9218868437227405312 (b % 2 ^ 63) h

pub other-pattern : (b : ℕ) → b % 2 ^ 63 ≤ 9218868437227405312 → is_nan (of_bits binary64 b) ≡ false
other-pattern b h = sym (nan_bits_is binary64 b) ∙ nan_bits_above binary64 b ∙ le-ltb 9218868437227405312 (b % 2 ^ 63) h

pub other-bits : (b : ℕ) → b % 2 ^ 63 ≤ 9218868437227405312 → T (not (nan_bits binary64 b))
other-bits b h = subst (λ (z : Bool). T (not z)) (sym (nan_bits_is binary64 b ∙ other-pattern b h)) tt

pub float-of-nan : (b : ℕ) → is_nan (of_bits binary64 b) ≡ true → pattern_float b ≡ inf false
unfolding pattern_float
float-of-nan b h = ap (λ (z : Bool). cond z (inf false) (of_bits binary64 b)) h

pub float-of-other : (b : ℕ) → is_nan (of_bits binary64 b) ≡ false → pattern_float b ≡ of_bits binary64 b
unfolding pattern_float
float-of-other b h = ap (λ (z : Bool). cond z (inf false) (of_bits binary64 b)) h

infinite-for-nan : (x : Float) → figure_of (cond (is_nan x) (inf false) x) ≡ figure_of x
unfolding is_nan figure_of
infinite-for-nan nan = refl
infinite-for-nan (inf s) = refl
infinite-for-nan (fin s m e) = refl

-- a NaN's pattern is refused as the NaN is: every pattern gives the answer of its own float
pub pattern-alike : (b : ℕ) → figure_of (pattern_float b) ≡ figure_of (of_bits binary64 b)
unfolding pattern_float
pattern-alike b = infinite-for-nan (of_bits binary64 b)
