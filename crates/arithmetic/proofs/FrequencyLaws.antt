-- Laws of the listed numbers of steps a year.
-- Assumes nothing.
use mathlib.Core.Path.{◌≡◌, refl, sym}
use mathlib.Core.Bool.{Bool, true, false, ◌||◌}
use mathlib.Core.Logic.{◌⊎◌, inl, inr}
use Prim.Native.Nat.{ℕ, ◌≤◌}
use native.Mathlib.Omega.{arith}
use lib.Dec.{eqb}
use borrow.Author.Tests.{eqb-true, ne_eqb}
use Rattle.arithmetic.specs.Frequency.{is_frequency}

true≢false : true ≡ false → ⊥
true≢false q = let z : ◌≡◌ {A = ℕ} 0 1 = cc in omega arith

-- a listed number of steps a year is one of the four
pub listed-cases : (f : ℕ) → is_frequency f ≡ true → (f ≡ 1) ⊎ ((f ≡ 2) ⊎ ((f ≡ 4) ⊎ (f ≡ 12)))
unfolding is_frequency
listed-cases f h = first (eqb f 1) refl h
  where
    fourth : (z : Bool) → eqb f 12 ≡ z → z ≡ true → f ≡ 12
    fourth true e g = eqb-true f 12 e
    fourth false e g = absurd (true≢false (sym g))

    third : (z : Bool) → eqb f 4 ≡ z → (z || eqb f 12) ≡ true → (f ≡ 4) ⊎ (f ≡ 12)
    third true e g = inl (eqb-true f 4 e)
    third false e g = inr (fourth (eqb f 12) refl g)

    second : (z : Bool) → eqb f 2 ≡ z → (z || eqb f 4 || eqb f 12) ≡ true → (f ≡ 2) ⊎ ((f ≡ 4) ⊎ (f ≡ 12))
    second true e g = inl (eqb-true f 2 e)
    second false e g = inr (third (eqb f 4) refl g)

    first : (z : Bool) → eqb f 1 ≡ z → (z || eqb f 2 || eqb f 4 || eqb f 12) ≡ true → (f ≡ 1) ⊎ ((f ≡ 2) ⊎ ((f ≡ 4) ⊎ (f ≡ 12)))
    first true e g = inl (eqb-true f 1 e)
    first false e g = inr (second (eqb f 2) refl g)

pub listed_small : (f : ℕ) → is_frequency f ≡ true → (1 ≤ f) × (f ≤ 12)
listed_small f h = by-case (listed-cases f h)
  where
    by-case : (f ≡ 1) ⊎ ((f ≡ 2) ⊎ ((f ≡ 4) ⊎ (f ≡ 12))) → (1 ≤ f) × (f ≤ 12)
    by-case (inl e) = (omega arith, omega arith)
    by-case (inr (inl e)) = (omega arith, omega arith)
    by-case (inr (inr (inl e))) = (omega arith, omega arith)
    by-case (inr (inr (inr e))) = (omega arith, omega arith)

pub listed-last : (f : ℕ) → (f ≡ 1 → ⊥) → (f ≡ 2 → ⊥) → (f ≡ 4 → ⊥) → eqb f 12 ≡ is_frequency f
unfolding is_frequency
listed-last f a b c = rw (ne_eqb f 1 a, ne_eqb f 2 b, ne_eqb f 4 c)
