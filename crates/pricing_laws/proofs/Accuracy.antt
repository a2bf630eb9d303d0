-- The accuracy of prices, once for every pricer whose roll keeps rounded and exact values near each other.
-- Assumes nothing.
use mathlib.Core.Path.{◌≡◌}
use mathlib.Core.Bool.{Bool}
use Prim.Native.Nat.{ℕ, zero, suc, ◌+◌, ◌-◌, ◌*◌, ◌^◌, ◌≤◌, ◌<◌}
use native.Mathlib.Nat.{pow-suc, sub-zero}
use native.Mathlib.Omega.{arith}
use Rattle.arithmetic.specs.Rounding.{one}
use Rattle.arithmetic.specs.Within.{Within}
use Rattle.arithmetic.proofs.RoundingLaws.{up-ge, up-shrinks}
use Rattle.pricing_laws.specs.Pricer.{rounded, fractions, bond_from, bare_bond_from, bond, bare_bond, Side, exercise_row, Schedule, option_from, option}
use Rattle.pricing_laws.specs.Pricer.{error_bound_from, error_bound}
use Rattle.pricing_laws.proofs.Near.{Near, near-flow, near-exercise, near-held}

-- What the laws use of a roll on rows 0 to n - 1: with the greatest discount of the row and what the roll's own roundings cost,
-- near values on the next row give near values on this one. Distances in half billionths.
pub record Close {Node : Type 0} (n unit : ℕ) (Stands : ℕ → Node → Type 0) (roll exact : ℕ → (Node → ℕ) → Node → ℕ)
    (greatest above below : ℕ → ℕ) : Type 0 where
  pub roll-near :
      (i : ℕ) → i < n → (v x : Node → ℕ) (l u l' u' M : ℕ) →
      greatest i * l + above i ≤ one * l' → greatest i * u + below i ≤ one * u' →
      ((k : Node) → Stands (suc i) k → Near l u M (v k) (x k)) →
      (k : Node) → Stands i k → Near l' u' (M * unit) (roll i v k) (exact i x k)

module _ {Node : Type 0} (n unit : ℕ) (Stands : ℕ → Node → Type 0) (roll exact : ℕ → (Node → ℕ) → Node → ℕ) (greatest above below : ℕ → ℕ)
    (close : Close n unit Stands roll exact greatest above below) where
  -- The bond, for any distances by row that cover each roll.
  module _ (l u : ℕ → ℕ) (cover-above : (i : ℕ) → i < n → greatest i * l (suc i) + above i ≤ one * l i)
      (cover-below : (i : ℕ) → i < n → greatest i * u (suc i) + below i ≤ one * u i) (flow : ℕ → ℕ) where
    -- a row without its flow, from the row after it
    rolled-near :
        (s i : ℕ) → i + suc s ≡ n →
        ((k : Node) → Stands (suc i) k →
        Near (l (suc i)) (u (suc i)) (unit ^ s) (bond_from (rounded roll) flow s (suc i) k) (bond_from (fractions unit exact) flow s (suc i) k)) →
        (k : Node) → Stands i k →
        Near (l i) (u i) (unit ^ suc s) (bare_bond_from (rounded roll) flow (suc s) i k) (bare_bond_from (fractions unit exact) flow (suc s) i k)
    unfolding bare_bond_from
    rolled-near s i e later k hk =
        rw pow-suc
        (close.roll-near i (omega arith) (bond_from (rounded roll) flow s (suc i)) (bond_from (fractions unit exact) flow s (suc i))
        (l (suc i)) (u (suc i)) (l i) (u i) (unit ^ s) (cover-above i (omega arith)) (cover-below i (omega arith)) later k hk)

    bond-near :
        (s i : ℕ) → i + s ≡ n → (k : Node) → Stands i k →
        Near (l i) (u i) (unit ^ s) (bond_from (rounded roll) flow s i k) (bond_from (fractions unit exact) flow s i k)
    unfolding bond_from bare_bond_from
    bond-near zero i e k hk = record { above = omega arith; below = omega arith }
    bond-near (suc s) i e k hk = near-flow (flow i) (rolled-near s i e (bond-near s (suc i) (omega arith)) k hk)

    bare-near :
        (s i : ℕ) → i + s ≡ n → (k : Node) → Stands i k →
        Near (l i) (u i) (unit ^ s) (bare_bond_from (rounded roll) flow s i k) (bare_bond_from (fractions unit exact) flow s i k)
    unfolding bare_bond_from
    bare-near zero i e k hk = record { above = omega arith; below = omega arith }
    bare-near (suc s) i e k hk = rolled-near s i e (bond-near s (suc i) (omega arith)) k hk

    pub bond-row :
        (i : ℕ) → i ≤ n → (k : Node) → Stands i k →
        Near (l i) (u i) (unit ^ (n - i)) (bond (rounded roll) flow n i k) (bond (fractions unit exact) flow n i k)
    unfolding bond
    bond-row i h k hk = bond-near (n - i) i (omega arith) k hk

    bare-row :
        (i : ℕ) → i ≤ n → (k : Node) → Stands i k →
        Near (l i) (u i) (unit ^ (n - i)) (bare_bond (rounded roll) flow n i k) (bare_bond (fractions unit exact) flow n i k)
    unfolding bare_bond
    bare-row i h k hk = bare-near (n - i) i (omega arith) k hk

  -- The option, for any distance by row that covers each roll both ways.
  module _ (a : ℕ → ℕ) (cover-above : (i : ℕ) → i < n → greatest i * a (suc i) + above i ≤ one * a i)
      (cover-below : (i : ℕ) → i < n → greatest i * a (suc i) + below i ≤ one * a i) (flow : ℕ → ℕ) (side : Side) (strike : ℕ) where
    exercise-near :
        (i : ℕ) → i ≤ n → (k : Node) → Stands i k →
        Near (a i) (a i) (unit ^ (n - i)) (exercise_row (rounded roll) flow n side strike i k) (exercise_row (fractions unit exact) flow n side strike i k)
    unfolding exercise_row
    exercise-near i h k hk =
        near-exercise side (a i) (unit ^ (n - i)) _ _ strike (bare-row a a cover-above cover-below flow i h k hk)

    option-near :
        (listed : ℕ → Bool) (s i : ℕ) → i + s ≤ n → (k : Node) → Stands i k →
        Near (a i) (a i) (unit ^ (n - i)) (option_from (rounded roll) flow n side strike listed s i k)
        (option_from (fractions unit exact) flow n side strike listed s i k)
    unfolding option_from
    option-near listed zero i h k hk = exercise-near i (omega arith) k hk
    option-near listed (suc s) i h k hk =
        near-held (listed i)
        (let e : n - i ≡ suc (n - suc i) = omega arith in
        rw (e, pow-suc)
        (close.roll-near i (omega arith) (option_from (rounded roll) flow n side strike listed s (suc i))
        (option_from (fractions unit exact) flow n side strike listed s (suc i))
        (a (suc i)) (a (suc i)) (a i) (a i) (unit ^ (n - suc i)) (cover-above i (omega arith)) (cover-below i (omega arith))
        (option-near listed s (suc i) (omega arith)) k hk))
        (exercise-near i (omega arith) k hk)

    pub option-row :
        (rows : Schedule) (i : ℕ) → i ≤ rows.last → rows.last ≤ n → (k : Node) → Stands i k →
        Near (a i) (a i) (unit ^ (n - i)) (option (rounded roll) flow n side strike rows i k) (option (fractions unit exact) flow n side strike rows i k)
    unfolding option
    option-row rows i h hl k hk = option-near rows.listed (rows.last - i) i (omega arith) k hk

-- The error bound covers each roll, if the loss of a step covers the roll's own roundings.
module _ (loss : ℕ) (greatest : ℕ → ℕ) where
  pub error-bound-covers :
      (n i cost : ℕ) → i < n → cost ≤ one * (2 * loss) →
      greatest i * (2 * error_bound loss greatest n (suc i)) + cost ≤ one * (2 * error_bound loss greatest n i)
  unfolding error_bound error_bound_from
  error-bound-covers n i cost h c =
      let e : n - i ≡ suc (n - suc i) = omega arith in
      rw e (omega (arith, up-ge (greatest i * error_bound_from loss greatest (n - suc i) (suc i)) one (omega arith)))

  -- where no discount is above one, a step adds at most its loss
  error-bound-most : (n s i : ℕ) → ((i : ℕ) → i < n → greatest i ≤ one) → i + s ≡ n → error_bound_from loss greatest s i ≤ loss * s
  unfolding error_bound_from
  error-bound-most n zero i h e = omega arith
  error-bound-most n (suc s) i h e =
      omega (
        arith,
        up-shrinks (greatest i) (error_bound_from loss greatest s (suc i)) (h i (omega arith)),
        error-bound-most n s (suc i) h (omega arith),
      )

  pub loss-a-step : (n : ℕ) → ((i : ℕ) → i < n → greatest i ≤ one) → error_bound loss greatest n 0 ≤ loss * n
  unfolding error_bound
  loss-a-step n h = rw sub-zero (error-bound-most n n 0 h (omega arith))

pub within : (a M e x : ℕ) → Near (2 * a) (2 * a) M e x → Within a M e x
within a M e x n = record { above = omega (arith, n.above); below = omega (arith, n.below) }

-- Both prices on row 0 stand within the error bound.
module _ {Node : Type 0} (n unit loss : ℕ) (Stands : ℕ → Node → Type 0) {roll exact : ℕ → (Node → ℕ) → Node → ℕ} {greatest above below : ℕ → ℕ}
    (close : Close n unit Stands roll exact greatest above below)
    (cost-above : (i : ℕ) → i < n → above i ≤ one * (2 * loss)) (cost-below : (i : ℕ) → i < n → below i ≤ one * (2 * loss)) where
  pub bond-within :
      (flow : ℕ → ℕ) (k : Node) → Stands 0 k →
      Within (error_bound loss greatest n 0) (unit ^ n) (bond (rounded roll) flow n 0 k) (bond (fractions unit exact) flow n 0 k)
  bond-within flow k hk =
      within _ _ _ _
      (rw sub-zero at
      (bond-row n unit Stands roll exact greatest above below close (λ i. 2 * error_bound loss greatest n i) (λ i. 2 * error_bound loss greatest n i)
      (λ i h. error-bound-covers loss greatest n i (above i) h (cost-above i h)) (λ i h. error-bound-covers loss greatest n i (below i) h (cost-below i h))
      flow 0 (omega arith) k hk))

  pub option-within :
      (flow : ℕ → ℕ) (side : Side) (strike : ℕ) (rows : Schedule) → rows.last ≤ n → (k : Node) → Stands 0 k →
      Within (error_bound loss greatest n 0) (unit ^ n) (option (rounded roll) flow n side strike rows 0 k)
      (option (fractions unit exact) flow n side strike rows 0 k)
  option-within flow side strike rows h k hk =
      within _ _ _ _
      (rw sub-zero at
      (option-row n unit Stands roll exact greatest above below close (λ i. 2 * error_bound loss greatest n i)
      (λ i h. error-bound-covers loss greatest n i (above i) h (cost-above i h)) (λ i h. error-bound-covers loss greatest n i (below i) h (cost-below i h))
      flow side strike rows 0 (omega arith) h k hk))
