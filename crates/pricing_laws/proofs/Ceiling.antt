-- How large the error bound may be, where no discount of a row is above a given number of hundredths.
-- Assumes nothing.
use mathlib.Core.Path.{◌≡◌}
use Prim.Native.Nat.{ℕ, zero, suc, ◌+◌, ◌-◌, ◌*◌, ◌/◌, ◌≤◌, ◌<◌}
use native.Mathlib.Nat.{mul-le-mul, mul-le-mul_right, le_refl, le_trans}
use native.Mathlib.Decide.{le_ind}
use native.Mathlib.Omega.{arith}
use Rattle.arithmetic.specs.Rounding.{one, round_up}
use Rattle.pricing_laws.specs.Pricer.{error_bound_from, error_bound}
use Rattle.pricing_laws.specs.TreePricer.{roll_loss}

-- at most so much over s rows, where no discount is above so many hundredths
unfoldable pub ceiling : ℕ → ℕ → ℕ
ceiling hundredths zero = 0
ceiling hundredths (suc s) = hundredths * ceiling hundredths s / 100 + 4

ceiling-grows : (h s r : ℕ) → 100 ≤ h → s ≤ r → ceiling h s ≤ ceiling h r
unfolding ceiling
ceiling-grows h s r p l =
    le_ind (λ (m : ℕ). ceiling h s ≤ ceiling h m) (le_refl (ceiling h s)) (λ m _ q. omega (arith, mul-le-mul_right (ceiling h m) p)) r l

ceiling-step : (h g a c : ℕ) → g ≤ h * 10000000 → a ≤ c → round_up (g * a) one + roll_loss ≤ h * c / 100 + 4
unfolding round_up
ceiling-step h g a c hg ha =
    let product : g * a ≤ 10000000 * (h * c) = omega (arith, mul-le-mul {n₁ = g} {m₁ = a} {n₂ = h * 10000000} {m₂ = c} hg ha) in
    omega arith

module _ (h : ℕ) (greatest : ℕ → ℕ) (n : ℕ) (most : (i : ℕ) → i < n → greatest i ≤ h * 10000000) where
  from-ceiling : (s i : ℕ) → i + s ≡ n → error_bound_from roll_loss greatest s i ≤ ceiling h s
  unfolding error_bound_from ceiling
  from-ceiling zero i e = omega arith
  from-ceiling (suc s) i e = ceiling-step h _ _ _ (most i (omega arith)) (from-ceiling s (suc i) (omega arith))

  -- the error bound of every row of at most so many steps
  pub error-bound-ceiling : 100 ≤ h → (steps : ℕ) → n ≤ steps → (i : ℕ) → i ≤ n → error_bound roll_loss greatest n i ≤ ceiling h steps
  unfolding error_bound
  error-bound-ceiling p steps few i l = le_trans (from-ceiling (n - i) i (omega arith)) (ceiling-grows h (n - i) steps p (omega arith))
