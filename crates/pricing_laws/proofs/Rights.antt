-- More rights cost no less (document 02, request (v)), for every pricer whose roll keeps order.
-- Assumes nothing.
use mathlib.Core.Path.{◌≡◌, refl, sym, ◌∙◌}
use mathlib.Core.Bool.{Bool, true, false}
use Prim.Native.Nat.{ℕ, zero, suc, ◌+◌, ◌-◌, ◌≤◌, ◌<◌}
use native.Mathlib.Nat.{le_refl, le_antisymm}
use native.Mathlib.Omega.{arith}
use Rattle.pricing_laws.specs.Pricer.{Pricer, Side, exercise_row, Schedule, held_or_exercised, option_from, option}
use Rattle.pricing_laws.proofs.Backward.{Local}

-- What the laws use of a roll: larger values on the next row give no smaller one on this row.
pub record Monotone {Node : Type 0} (Stands : ℕ → Node → Type 0) (roll : ℕ → (Node → ℕ) → Node → ℕ) : Type 0 where
  pub roll-le :
      (i : ℕ) (v w : Node → ℕ) → ((k : Node) → Stands (suc i) k → v k ≤ w k) → (k : Node) → Stands i k → roll i v k ≤ roll i w k

-- then equal values give equal ones
pub monotone-local : {Node : Type 0} (Stands : ℕ → Node → Type 0) (roll : ℕ → (Node → ℕ) → Node → ℕ) → Monotone Stands roll → Local Stands roll
monotone-local Stands roll m =
    record {
      roll-same = λ i v w h k hk.
          le_antisymm (m.roll-le i v w (λ j hj. rw (h j hj) (le_refl _)) k hk) (m.roll-le i w v (λ j hj. rw (h j hj) (le_refl _)) k hk);
    }

-- a right to exercise is worth at least the exercise
held-ge : (b : Bool) (roll now : ℕ) → b ≡ true → now ≤ held_or_exercised b roll now
unfolding held_or_exercised
held-ge true roll now h = omega arith
held-ge false roll now h = let z : ◌≡◌ {A = ℕ} 0 1 = cc in absurd (omega arith)

-- a roll that is no smaller, and at least the same right
held-le : (b c : Bool) (r s now : ℕ) → (b ≡ true → c ≡ true) → r ≤ s → held_or_exercised b r now ≤ held_or_exercised c s now
unfolding held_or_exercised
held-le true true r s now h l = omega arith
held-le true false r s now h l = let q : false ≡ true = h refl in let z : ◌≡◌ {A = ℕ} 0 1 = cc in absurd (omega arith)
held-le false true r s now h l = omega arith
held-le false false r s now h l = l

-- One schedule has every right of another: each row that it lists before its last one, and that last one.
pub record Covers (few many : Schedule) : Type 0 where
  pub later : few.last ≤ many.last
  pub last-listed : few.last < many.last → many.listed few.last ≡ true
  pub rows-listed : (i : ℕ) → i < few.last → few.listed i ≡ true → many.listed i ≡ true

module _ {Node : Type 0} (Stands : ℕ → Node → Type 0) (p : Pricer Node) (m : Monotone Stands p.roll) (flow : ℕ → ℕ) (n : ℕ) (side : Side) (strike : ℕ) where
  -- the last row of the lesser schedule, with d rows left in the greater one
  last-row-le :
      (many : ℕ → Bool) (d i : ℕ) → (0 < d → many i ≡ true) → (k : Node) →
      exercise_row p flow n side strike i k ≤ option_from p flow n side strike many d i k
  unfolding option_from
  last-row-le many zero i h k = le_refl _
  last-row-le many (suc d) i h k = held-ge (many i) _ _ (h (omega arith))

  rights-from :
      (few many : ℕ → Bool) (s d i last : ℕ) → i + s ≡ last → (0 < d → many last ≡ true) →
      ((r : ℕ) → r < last → few r ≡ true → many r ≡ true) → (k : Node) → Stands i k →
      option_from p flow n side strike few s i k ≤ option_from p flow n side strike many (s + d) i k
  unfolding option_from
  rights-from few many zero d i last e hl h k hk =
      let z : 0 + d ≡ d = omega arith in
      let f : i ≡ last = omega arith in
      rw z (last-row-le many d i (rw f hl) k)
  rights-from few many (suc s) d i last e hl h k hk =
      let z : suc s + d ≡ suc (s + d) = omega arith in
      rw z
      (held-le (few i) (many i) _ _ _ (h i (omega arith))
      (m.roll-le i (option_from p flow n side strike few s (suc i)) (option_from p flow n side strike many (s + d) (suc i))
      (rights-from few many s d (suc i) last (omega arith) hl h) k hk))

  -- the price of the schedule with more rights is not lower, at every row and node
  pub more-rights :
      (few many : Schedule) → Covers few many → (i : ℕ) → i ≤ few.last → (k : Node) → Stands i k →
      option p flow n side strike few i k ≤ option p flow n side strike many i k
  unfolding option
  more-rights few many c i hi k hk =
      let e : many.last - i ≡ (few.last - i) + (many.last - few.last) = omega (arith, c.later) in
      rw e
      (rights-from few.listed many.listed (few.last - i) (many.last - few.last) i few.last (omega arith)
      (λ h. c.last-listed (omega arith)) c.rows-listed k hk)

  -- schedules that agree give one price
  pub same-rights :
      (rows other : Schedule) → rows.last ≡ other.last → ((i : ℕ) → i < rows.last → rows.listed i ≡ other.listed i) →
      (i : ℕ) → i ≤ rows.last → (k : Node) → Stands i k →
      option p flow n side strike rows i k ≡ option p flow n side strike other i k
  same-rights rows other ends listed i hi k hk =
      le_antisymm
      (more-rights rows other
      (record { later = omega arith; last-listed = λ h. absurd (omega arith); rows-listed = λ r h e. sym (listed r h) ∙ e }) i hi k hk)
      (more-rights other rows
      (record { later = omega arith; last-listed = λ h. absurd (omega arith); rows-listed = λ r h e. listed r (omega arith) ∙ e }) i
      (omega arith) k hk)
