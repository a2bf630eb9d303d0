-- Whole numbers with a sign: their sizes, which of them an `i64` holds, and what an `i64` holds after a negation.
-- Assumes nothing.
use mathlib.Core.Path.{◌≡◌, refl, sym, ◌∙◌, ap, subst}
use mathlib.Core.Bool.{Bool, true, false, cond}
use Prim.Native.Nat.{ℕ, zero, suc, ◌+◌, ◌-◌, ◌*◌, ◌^◌, ◌≤◌, ◌<◌}
use native.Mathlib.Omega.{arith}
use borrow.Author.Tests.{ltb-true, ltb-false}
use lib.Dec.{T, ltb}
use lib.IntN.{ℤ, pos, negsuc, neg_ℤ, nat_abs, sub_ℕ, ◌+ℤ◌, ◌-ℤ◌, ◌*ℤ◌, +ℤ_idl}
use lib.Signed.{lt_z, non_neg}
use mir.Syntax.{w64}
use mir.Val.{SFits, to_z, of_z}
use mir.Facts.{to_z-of_z, to_z_pos}

pub abs-negative : (n : ℕ) → nat_abs (neg_ℤ (pos n)) ≡ n
abs-negative zero = refl
abs-negative (suc n) = refl

pub abs-difference : (a b : ℕ) → nat_abs (sub_ℕ a b) ≤ a + b
abs-difference a b = by-test (ltb a b) refl
  where
    by-test : (z : Bool) → ltb a b ≡ z → nat_abs (cond z (negsuc (b - suc a)) (pos (a - b))) ≤ a + b
    by-test true e = omega (arith, ltb-true a b e)
    by-test false e = omega arith

pub abs-sum : (a b : ℤ) → nat_abs (a +ℤ b) ≤ nat_abs a + nat_abs b
abs-sum (pos a) (pos b) = omega arith
abs-sum (pos a) (negsuc b) = abs-difference a (suc b)
abs-sum (negsuc a) (pos b) = omega (arith, abs-difference b (suc a))
abs-sum (negsuc a) (negsuc b) = omega arith

pub abs-product : (t : ℕ) (r : ℤ) → nat_abs (pos t *ℤ r) ≡ t * nat_abs r
abs-product t (pos n) = refl
abs-product t (negsuc n) = abs-negative (t * suc n)

pub fits-by-size : (z : ℤ) → nat_abs z < 2 ^ 63 → SFits w64 z
fits-by-size (pos n) h = record { sfits = h }
fits-by-size (negsuc n) h = record { sfits = omega arith }

-- a number below 2^63, negated as an `i64`
pub minus : (m : ℕ) → m < 2 ^ 63 → pos 0 -ℤ to_z w64 m ≡ neg_ℤ (pos m)
minus m h = ap (λ (z : ℤ). pos 0 -ℤ z) (to_z_pos w64 h) ∙ +ℤ_idl (neg_ℤ (pos m))

pub negative_fits : (m : ℕ) → m < 2 ^ 63 → SFits w64 (neg_ℤ (pos m))
negative_fits zero h = record { sfits = omega arith }
negative_fits (suc m) h = record { sfits = omega arith }

pub minus-fits : (m : ℕ) → m < 2 ^ 63 → SFits w64 (pos 0 -ℤ to_z w64 m)
minus-fits m h = subst (λ (z : ℤ). SFits w64 z) (sym (minus m h)) (negative_fits m h)

pub minus-back : (m : ℕ) → m < 2 ^ 63 → to_z w64 (of_z w64 (pos 0 -ℤ to_z w64 m)) ≡ neg_ℤ (pos m)
minus-back m h = to_z-of_z (minus-fits m h) ∙ minus m h

different : ◌≡◌ {A = ℕ} 0 1 → ⊥
different e = omega arith

below-zero : (n : ℕ) → n < 0 → ⊥
below-zero n h = omega arith

pub is_whole : (z : ℤ) → lt_z z (pos 0) ≡ false → T (non_neg z)
is_whole (pos n) h = tt
is_whole (negsuc n) h = let e : ◌≡◌ {A = ℕ} 0 1 = cc in absurd (different e)

pub not_negative : (z : ℤ) → lt_z z (pos 0) ≡ false → z ≡ pos (nat_abs z)
not_negative (pos n) h = refl
not_negative (negsuc n) h = cc

-- a negated number below zero is its size
pub negated : (z : ℤ) → lt_z z (pos 0) ≡ true → pos 0 -ℤ z ≡ pos (nat_abs z)
negated (pos n) h = absurd (below-zero n (ltb-true n 0 h))
negated (negsuc n) h = +ℤ_idl (pos (suc n))

-- what an `i64` holds is at most 2^63 in size, which only its lowest number is
pub size-most : (z : ℤ) → SFits w64 z → nat_abs z ≤ 2 ^ 63
size-most (pos n) f = omega (arith, f.sfits)
size-most (negsuc n) f = omega (arith, f.sfits)

pub size-lowest : (z : ℤ) → SFits w64 z → lt_z z (negsuc 9223372036854775806) ≡ true → 9223372036854775808 ≡ nat_abs z
size-lowest (pos n) f h = cc
size-lowest (negsuc n) f h = omega (arith, f.sfits, ltb-true 9223372036854775806 n h)

pub size-other : (z : ℤ) → SFits w64 z → lt_z z (negsuc 9223372036854775806) ≡ false → nat_abs z < 2 ^ 63
size-other (pos n) f h = f.sfits
size-other (negsuc n) f h = omega (arith, ltb-false 9223372036854775806 n h)

-- `z` is the number of which the code holds the bits
module _ (z : ℤ) (h : nat_abs z < 2 ^ 63) (f : SFits w64 z) where
  pub back : to_z w64 (of_z w64 z) ≡ z
  back = to_z-of_z f

  module _ (l : lt_z (to_z w64 (of_z w64 z)) (pos 0) ≡ true) where
    pub below : lt_z z (pos 0) ≡ true
    below = rw back at l

    pub negated-is : pos 0 -ℤ to_z w64 (of_z w64 z) ≡ pos (nat_abs z)
    negated-is = ap (λ (y : ℤ). pos 0 -ℤ y) back ∙ negated z below

    pub negated_fits : SFits w64 (pos 0 -ℤ to_z w64 (of_z w64 z))
    negated_fits = subst (λ (y : ℤ). SFits w64 y) (sym negated-is) (record { sfits = omega arith })

    pub negated_back : to_z w64 (of_z w64 (pos 0 -ℤ to_z w64 (of_z w64 z))) ≡ pos (nat_abs z)
    negated_back = to_z-of_z negated_fits ∙ negated-is
