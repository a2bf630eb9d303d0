-- An option depends on its last row, and on which rows before it are listed.
-- Assumes nothing.
use mathlib.Core.Path.{◌≡◌, refl, ap, ap₂, ◌∙◌}
use mathlib.Core.Bool.{Bool}
use Prim.Native.Nat.{ℕ, zero, suc, ◌+◌, ◌-◌, ◌≤◌, ◌<◌}
use native.Mathlib.Omega.{arith}
use Rattle.pricing_laws.specs.Pricer.{Pricer, Side, Schedule, exercise_row, held_or_exercised, option_from, option}

-- two schedules that end on one row and list the same rows before it
pub record Alike (rows other : Schedule) : Type 0 where
  pub last : rows.last ≡ other.last
  pub listed : (i : ℕ) → i < rows.last → rows.listed i ≡ other.listed i

module _ {Node : Type 0} (p : Pricer Node) (flow : ℕ → ℕ) (n : ℕ) (side : Side) (strike : ℕ) where
  from-alike :
      (f g : ℕ → Bool) (s i : ℕ) → ((j : ℕ) → i ≤ j → j < i + s → f j ≡ g j) →
      option_from p flow n side strike f s i ≡ option_from p flow n side strike g s i
  unfolding option_from
  from-alike f g zero i h = refl
  from-alike f g (suc s) i h =
      ap₂ {C = Node → ℕ} (λ (t : Bool) (v : Node → ℕ). λ k. held_or_exercised t (p.roll i v k) (exercise_row p flow n side strike i k))
      (h i (omega arith) (omega arith)) (from-alike f g s (suc i) (λ j l m. h j (omega arith) (omega arith)))

  pub option-alike :
      (rows other : Schedule) → Alike rows other → (i : ℕ) →
      option p flow n side strike rows i ≡ option p flow n side strike other i
  unfolding option
  option-alike rows other a i =
      from-alike rows.listed other.listed (rows.last - i) i (λ j l m. a.listed j (omega arith))
      ∙ ap (λ (last : ℕ). option_from p flow n side strike other.listed (last - i) i) a.last
