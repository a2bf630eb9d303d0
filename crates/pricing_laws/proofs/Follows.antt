-- A pricer that follows another along a map of nodes gives the same prices, the same greatest values and, with the same greatest discounts, the
-- same error bound.
-- Assumes nothing.
use mathlib.Core.Path.{◌≡◌, refl, ap, ap₂}
use mathlib.Core.Bool.{Bool}
use Prim.Native.Nat.{ℕ, zero, suc, ◌+◌, ◌-◌, ◌≤◌, ◌<◌}
use native.Mathlib.Omega.{arith}
use Rattle.pricing_laws.specs.Peak.{peak_from, peak}
use Rattle.pricing_laws.specs.Pricer.{rounded, bond_from, bare_bond_from, bond, bare_bond, error_bound_from, error_bound}
use Rattle.pricing_laws.specs.Pricer.{Side, exercise, exercise_row, Schedule, held_or_exercised, option_from, option}

-- roll on nodes A follows base on nodes B: where its values are those of the nodes that it is mapped to, so is its roll
pub record Follows {A B : Type 0} (n : ℕ) (Stands : ℕ → A → Type 0) (to : A → B) (roll : ℕ → (A → ℕ) → A → ℕ)
    (base : ℕ → (B → ℕ) → B → ℕ) : Type 0 where
  pub roll-follows :
      (i : ℕ) → i < n → (v : A → ℕ) (w : B → ℕ) → ((k : A) → Stands (suc i) k → v k ≡ w (to k)) →
      (k : A) → Stands i k → roll i v k ≡ base i w (to k)

module _ {A B : Type 0} (n : ℕ) (Stands : ℕ → A → Type 0) (to : A → B) (roll : ℕ → (A → ℕ) → A → ℕ) (base : ℕ → (B → ℕ) → B → ℕ)
    (f : Follows n Stands to roll base) (flow : ℕ → ℕ) where
  bond-from-same :
      (s i : ℕ) → i + s ≡ n → (k : A) → Stands i k → bond_from (rounded roll) flow s i k ≡ bond_from (rounded base) flow s i (to k)
  unfolding bond_from
  bond-from-same zero i e k hk = refl
  bond-from-same (suc s) i e k hk =
      ap (λ (x : ℕ). x + flow i) (f.roll-follows i (omega arith) _ _ (bond-from-same s (suc i) (omega arith)) k hk)

  bare-same :
      (s i : ℕ) → i + s ≡ n → (k : A) → Stands i k → bare_bond_from (rounded roll) flow s i k ≡ bare_bond_from (rounded base) flow s i (to k)
  unfolding bare_bond_from
  bare-same zero i e k hk = refl
  bare-same (suc s) i e k hk = f.roll-follows i (omega arith) _ _ (bond-from-same s (suc i) (omega arith)) k hk

  pub bond-follows : (i : ℕ) → i ≤ n → (k : A) → Stands i k → bond (rounded roll) flow n i k ≡ bond (rounded base) flow n i (to k)
  unfolding bond
  bond-follows i h k hk = bond-from-same (n - i) i (omega arith) k hk

  module _ (side : Side) (strike : ℕ) where
    exercise-follows :
        (i : ℕ) → i ≤ n → (k : A) → Stands i k →
        exercise_row (rounded roll) flow n side strike i k ≡ exercise_row (rounded base) flow n side strike i (to k)
    unfolding exercise_row bare_bond
    exercise-follows i h k hk = ap (exercise side strike) (bare-same (n - i) i (omega arith) k hk)

    option-from-same :
        (listed : ℕ → Bool) (s i : ℕ) → i + s ≤ n → (k : A) → Stands i k →
        option_from (rounded roll) flow n side strike listed s i k ≡ option_from (rounded base) flow n side strike listed s i (to k)
    unfolding option_from
    option-from-same listed zero i h k hk = exercise-follows i (omega arith) k hk
    option-from-same listed (suc s) i h k hk =
        ap₂ (held_or_exercised (listed i))
        (f.roll-follows i (omega arith) _ _ (option-from-same listed s (suc i) (omega arith)) k hk)
        (exercise-follows i (omega arith) k hk)

    pub option-follows :
        (rows : Schedule) (i : ℕ) → i ≤ rows.last → rows.last ≤ n → (k : A) → Stands i k →
        option (rounded roll) flow n side strike rows i k ≡ option (rounded base) flow n side strike rows i (to k)
    unfolding option
    option-follows rows i h hl k hk = option-from-same rows.listed (rows.last - i) i (omega arith) k hk

-- the peak depends on rows 0 to n only
peak-from-same : (f g : ℕ → ℕ) (n s i : ℕ) → ((i : ℕ) → i ≤ n → f i ≡ g i) → i + s ≡ n → peak_from f s i ≡ peak_from g s i
unfolding peak_from
peak-from-same f g n zero i h e = h i (omega arith)
peak-from-same f g n (suc s) i h e = rw (h i (omega arith), peak-from-same f g n s (suc i) h (omega arith))

pub peak-same : (f g : ℕ → ℕ) (n : ℕ) → ((i : ℕ) → i ≤ n → f i ≡ g i) → peak f n 0 ≡ peak g n 0
unfolding peak
peak-same f g n h = peak-from-same f g n (n - 0) 0 h (omega arith)

-- the greatest value of a row follows that of the nodes it is mapped to
pub record Top-follows {A B : Type 0} (Stands : ℕ → A → Type 0) (to : A → B) (top : ℕ → (A → ℕ) → ℕ) (base : ℕ → (B → ℕ) → ℕ) : Type 0 where
  pub same-top : (i : ℕ) (v : A → ℕ) (w : B → ℕ) → ((k : A) → Stands i k → v k ≡ w (to k)) → top i v ≡ base i w

module _ {A B : Type 0} (n : ℕ) (Stands : ℕ → A → Type 0) (to : A → B) (roll : ℕ → (A → ℕ) → A → ℕ) (base : ℕ → (B → ℕ) → B → ℕ)
    (f : Follows n Stands to roll base) (top : ℕ → (A → ℕ) → ℕ) (base-top : ℕ → (B → ℕ) → ℕ) (g : Top-follows Stands to top base-top)
    (flow : ℕ → ℕ) where
  pub bond-peak-follows :
      peak (λ i. top i (bond (rounded roll) flow n i)) n 0 ≡ peak (λ i. base-top i (bond (rounded base) flow n i)) n 0
  bond-peak-follows = peak-same _ _ n (λ i h. g.same-top i _ _ (bond-follows n Stands to roll base f flow i h))

  pub option-peak-follows :
      (side : Side) (strike : ℕ) (rows : Schedule) → rows.last ≤ n →
      peak (λ i. top i (option (rounded roll) flow n side strike rows i)) rows.last 0
      ≡ peak (λ i. base-top i (option (rounded base) flow n side strike rows i)) rows.last 0
  option-peak-follows side strike rows h =
      peak-same _ _ rows.last (λ i hi. g.same-top i _ _ (option-follows n Stands to roll base f flow side strike rows i hi h))

-- the error bound depends on the greatest discounts of rows 0 to n - 1 only
bound-from-same :
    (loss : ℕ) (f g : ℕ → ℕ) (n s i : ℕ) → ((i : ℕ) → i < n → f i ≡ g i) → i + s ≡ n → error_bound_from loss f s i ≡ error_bound_from loss g s i
unfolding error_bound_from
bound-from-same loss f g n zero i h e = refl
bound-from-same loss f g n (suc s) i h e = rw (h i (omega arith), bound-from-same loss f g n s (suc i) h (omega arith))

pub error-bound-same : (loss : ℕ) (f g : ℕ → ℕ) (n : ℕ) → ((i : ℕ) → i < n → f i ≡ g i) → error_bound loss f n 0 ≡ error_bound loss g n 0
unfolding error_bound
error-bound-same loss f g n h = bound-from-same loss f g n (n - 0) 0 h (omega arith)
