-- Laws of the columns that are made of a record.
-- Assumes nothing.
use mathlib.Core.Path.{◌≡◌, refl, sym, ap, ◌∙◌}
use mathlib.Core.List.{List, [], ◌∷◌, ◌++◌, map}
use Prim.Native.Nat.{ℕ, zero, suc, ◌+◌, ◌≤◌, ◌<◌}
use native.Mathlib.Omega.{arith}
use native.Mathlib.Numerals.{add-one}
use lib.Ieee.{Float}
use lib.ListN.{length, get_or, take, set, length-take, length-set, length-map}
use lib.Seq.{get_or-take}
use Rattle.arithmetic.specs.Row.{row}
use Rattle.arithmetic.proofs.RowLaws.{Filled, row_of}
use Rattle.figure.specs.Figure.{pattern_float}

-- ---- rows 1 to n

pub rows-filled : (l₀ l : List ℕ) (count i : ℕ) (f : ℕ → ℕ) →
    Filled l₀ l f i → i ≡ count → count ≤ length l₀ → take count l ≡ row count f
rows-filled l₀ l count i f p e h =
    row_of (take count l) count f (simp length-take (omega (arith, p.same)))
    (λ k below. rw get_or-take (p.done k (omega arith)))

-- ---- figures of the first patterns

-- the first i floats are those of the patterns, and as many are left as there were
pub record Figured (patterns : List ℕ) (l₀ l : List Float) (i : ℕ) : Type 0 where
  pub same : length l ≡ length l₀
  pub done : take i l ≡ map pattern_float (take i patterns)

pub figured-start : (patterns : List ℕ) (l : List Float) → Figured patterns l l 0
figured-start patterns l = record { same = refl; done = refl }

take-set : {A : Type 0} (l : List A) (i : ℕ) (x : A) → i < length l → take (suc i) (set l i x) ≡ take i l ++ (x ∷ [])
take-set [] i x h = let none : ⊥ = omega arith in absurd none
take-set (y ∷ l) zero x h = refl
take-set (y ∷ l) (suc i) x h = ap (λ t. y ∷ t) (take-set l i x (omega arith))

take-map : (l : List ℕ) (i : ℕ) → i < length l →
    map pattern_float (take (suc i) l) ≡ map pattern_float (take i l) ++ (pattern_float (get_or l i 0) ∷ [])
take-map [] i h = let none : ⊥ = omega arith in absurd none
take-map (y ∷ l) zero h = refl
take-map (y ∷ l) (suc i) h = ap (λ t. pattern_float y ∷ t) (take-map l i (omega arith))

pub figured-next : (patterns : List ℕ) (l₀ l : List Float) (i : ℕ) (x : Float) →
    Figured patterns l₀ l i → i < length patterns → i < length l₀ → x ≡ pattern_float (get_or patterns i 0) →
    Figured patterns l₀ (set l i x) (i + 1)
figured-next patterns l₀ l i x p h g e =
    record {
      same = length-set l i x ∙ p.same;
      done =
          rw (add-one i)
          (take-set l i x (omega (arith, p.same)) ∙ ap (λ (t : List Float). t ++ (x ∷ [])) p.done
          ∙ ap (λ (y : Float). map pattern_float (take i patterns) ++ (y ∷ [])) e ∙ sym (take-map patterns i h));
    }

pub floats-length : (l : List ℕ) → length (map pattern_float l) ≡ length l
floats-length l = length-map l pattern_float
