-- The divisor of a rate's discount, as the code has it in an `i64`.
-- Assumes nothing.
use mathlib.Core.Path.{◌≡◌, refl, sym, ◌∙◌, ap₂, subst}
use mathlib.Core.Bool.{true, false}
use Prim.Native.Nat.{ℕ, zero, suc, ◌*◌, ◌/◌, ◌≤◌, ◌<◌}
use native.Mathlib.Nat.{mul-le-mul}
use native.Mathlib.Omega.{arith}
use borrow.Author.Tests.{leb-true, leb-false}
use lib.Dec.{T}
use lib.IntN.{ℤ, pos, negsuc, nat_abs, ◌+ℤ◌, ◌*ℤ◌}
use lib.Signed.{le_z, non_neg}
use mir.Syntax.{w64}
use mir.Val.{SFits, to_z, of_z}
use mir.Facts.{to_z-of_z, to_z_pos}
use Rattle.quotes.specs.Quotes.{quotient}
use Rattle.arithmetic.specs.Rounding.{round_down}
use Rattle.arithmetic.proofs.Signed.{abs-sum, abs-product, fits-by-size}

-- ---- a quotient by the divisor's sign

pub quotient-none : (n : ℕ) (z : ℤ) → le_z z (pos 0) ≡ true → quotient n z ≡ 0
unfolding quotient
quotient-none n (pos zero) h = refl
quotient-none n (pos (suc d)) h = let l : suc d ≤ 0 = leb-true (suc d) 0 h in let none : ⊥ = omega arith in absurd none
quotient-none n (negsuc d) h = refl

pub quotient-some : (n : ℕ) (z : ℤ) → le_z z (pos 0) ≡ false → T (non_neg z) × (0 < nat_abs z) × (quotient n z ≡ n / nat_abs z)
unfolding quotient round_down
quotient-some n (pos zero) h = let l : 0 < 0 = leb-false 0 0 h in let none : ⊥ = omega arith in absurd none
quotient-some n (pos (suc d)) h = (tt, leb-false (suc d) 0 h, refl)
quotient-some n (negsuc d) h = let z : ◌≡◌ {A = ℕ} 0 1 = cc in let none : ⊥ = omega arith in absurd none

-- ---- the code's divisor

module _ (f t : ℕ) (r : ℤ) (hf : f ≤ 12) (ht : t ≤ 60) (hr : nat_abs r ≤ 10000000000) (fr : SFits w64 r) where
  product-size : nat_abs (pos t *ℤ r) ≤ 600000000000
  product-size = subst (λ (k : ℕ). k ≤ 600000000000) (sym (abs-product t r)) (mul-le-mul ht hr)

  product-coded : to_z w64 t *ℤ to_z w64 (of_z w64 r) ≡ pos t *ℤ r
  product-coded = ap₂ ◌*ℤ◌ (to_z_pos w64 (omega arith)) (to_z-of_z fr)

  pub product-fits : SFits w64 (to_z w64 t *ℤ to_z w64 (of_z w64 r))
  product-fits = subst (λ (z : ℤ). SFits w64 z) (sym product-coded) (fits-by-size (pos t *ℤ r) (omega (arith, product-size)))

  pub divisor-coded : to_z w64 (f * 1000000000) +ℤ to_z w64 (of_z w64 (to_z w64 t *ℤ to_z w64 (of_z w64 r))) ≡ pos (f * 1000000000) +ℤ pos t *ℤ r
  divisor-coded = ap₂ ◌+ℤ◌ (to_z_pos w64 (omega arith)) (to_z-of_z product-fits ∙ product-coded)

  pub divisor-size : nat_abs (pos (f * 1000000000) +ℤ pos t *ℤ r) ≤ 612000000000
  divisor-size = omega (arith, abs-sum (pos (f * 1000000000)) (pos t *ℤ r), product-size)

  pub divisor-fits : SFits w64 (to_z w64 (f * 1000000000) +ℤ to_z w64 (of_z w64 (to_z w64 t *ℤ to_z w64 (of_z w64 r))))
  divisor-fits =
      subst (λ (z : ℤ). SFits w64 z) (sym divisor-coded)
      (fits-by-size (pos (f * 1000000000) +ℤ pos t *ℤ r) (omega (arith, divisor-size)))

  -- what is read back from the bits
  pub divisor-back : to_z w64 (of_z w64 (to_z w64 (f * 1000000000) +ℤ to_z w64 (of_z w64 (to_z w64 t *ℤ to_z w64 (of_z w64 r))))) ≡ pos (f * 1000000000) +ℤ pos t *ℤ r
  divisor-back = to_z-of_z divisor-fits ∙ divisor-coded
