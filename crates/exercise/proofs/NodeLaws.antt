-- The value of one node, as the code computes it.
-- Assumes nothing.
use mathlib.Core.Path.{◌≡◌, refl, ◌∙◌}
use mathlib.Core.Bool.{Bool, true, false, ◌||◌}
use Prim.Native.Nat.{ℕ, ◌-◌, max}
use native.Mathlib.Omega.{arith}
use lib.Dec.{eqb}
use borrow.Author.Tests.{eq-eqb, ne_eqb}
use Rattle.pricing_laws.specs.Pricer.{exercise, held_or_exercised}
use Rattle.exercise.specs.declared.Terms.{Terms}
use Rattle.exercise.specs.Terms.{side, terms_of}

-- the exercise value and the option's value, by the tests that the code makes
pub call-value : (b : Bool) (strike bond r : ℕ) → b ≡ true → r ≡ bond - strike → r ≡ exercise (side b) strike bond
unfolding exercise
call-value true strike bond r e h = h
call-value false strike bond r e h = let z : ◌≡◌ {A = ℕ} 0 1 = cc in absurd (omega arith)

pub put-value : (b : Bool) (strike bond r : ℕ) → b ≡ false → r ≡ strike - bond → r ≡ exercise (side b) strike bond
unfolding exercise
put-value false strike bond r e h = h
put-value true strike bond r e h = let z : ◌≡◌ {A = ℕ} 0 1 = cc in absurd (omega arith)

pub listed-value : (b : Bool) (roll now r : ℕ) → b ≡ true → r ≡ max roll now → r ≡ held_or_exercised b roll now
unfolding held_or_exercised
listed-value true roll now r e h = h
listed-value false roll now r e h = let z : ◌≡◌ {A = ℕ} 0 1 = cc in absurd (omega arith)

pub unlisted-value : (b : Bool) (roll now : ℕ) → b ≡ false → roll ≡ held_or_exercised b roll now
unfolding held_or_exercised
unlisted-value false roll now e = refl
unlisted-value true roll now e = let z : ◌≡◌ {A = ℕ} 0 1 = cc in absurd (omega arith)

-- the terms of a kind
pub terms-built : (kind expiry strike : ℕ) (t : Bool) → t ≡ (eqb kind 1 || eqb kind 3) →
    ◌≡◌ {A = Terms} (record { call = t; strike = strike; last = expiry }) (terms_of kind expiry strike)
unfolding terms_of
terms-built kind expiry strike t e = rw e

pub call-by-first : (kind : ℕ) (t : Bool) → kind ≡ 1 → t ≡ eqb kind 1 → t ≡ (eqb kind 1 || eqb kind 3)
call-by-first kind t h e = e ∙ rw (eq-eqb kind 1 h)

pub call-by-second : (kind : ℕ) (t : Bool) → (kind ≡ 1 → ⊥) → t ≡ eqb kind 3 → t ≡ (eqb kind 1 || eqb kind 3)
call-by-second kind t h e = rw (ne_eqb kind 1 h) e
