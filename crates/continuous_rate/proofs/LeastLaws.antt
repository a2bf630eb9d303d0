-- Laws of the first place of the least value.
-- Assumes nothing.
use mathlib.Core.Path.{◌≡◌, refl}
use mathlib.Core.Bool.{Bool, true, false, cond}
use mathlib.Core.Logic.{◌⊎◌, inl, inr}
use Prim.Native.Nat.{ℕ, zero, suc, ◌+◌, ◌≤◌, ◌<◌}
use native.Mathlib.Nat.{le_refl, eq-or-lt_of_le, le_of_suc-le-suc, le_antisymm, lt_of_not-le, not-le_of_lt}
use native.Mathlib.Numerals.{add-one}
use native.Mathlib.Omega.{arith}
use borrow.Author.Tests.{lt-ltb, le-ltb, ltb-true, ltb-false}
use lib.Dec.{ltb}
use Rattle.continuous_rate.specs.Least.{first_least}

-- it is one of the places,
pub least-within : (g : ℕ → ℕ) (n : ℕ) → first_least g n ≤ n
unfolding first_least
least-within g zero = le_refl 0
least-within g (suc n) = go (ltb (g (suc n)) (g (first_least g n))) (least-within g n)
  where
    go : (b : Bool) → first_least g n ≤ n → cond b (suc n) (first_least g n) ≤ suc n
    go true h = le_refl _
    go false h = omega arith

-- no place has less,
pub least-low : (g : ℕ → ℕ) (n k : ℕ) → k ≤ n → g (first_least g n) ≤ g k
unfolding first_least
least-low g zero k l = let e : k ≡ 0 = omega arith in rw e (le_refl _)
least-low g (suc n) k l = go (ltb (g (suc n)) (g (first_least g n))) refl (λ h. least-low g n k h) (eq-or-lt_of_le l)
  where
    go :
        (b : Bool) → ltb (g (suc n)) (g (first_least g n)) ≡ b → (k ≤ n → g (first_least g n) ≤ g k) → (k ≡ suc n) ⊎ (k < suc n) →
        g (cond b (suc n) (first_least g n)) ≤ g k
    go true t ih (inl e) = rw e (le_refl _)
    go true t ih (inr h) = omega (arith, ltb-true (g (suc n)) (g (first_least g n)) t, ih (le_of_suc-le-suc h))
    go false t ih (inl e) = rw e (ltb-false (g (suc n)) (g (first_least g n)) t)
    go false t ih (inr h) = ih (le_of_suc-le-suc h)

-- the places before it have more,
pub least_first : (g : ℕ → ℕ) (n k : ℕ) → k < first_least g n → g (first_least g n) < g k
unfolding first_least
least_first g zero k l = absurd (none l)
  where
    none : k < 0 → ⊥
    none h = omega arith
least_first g (suc n) k l = go (ltb (g (suc n)) (g (first_least g n))) refl (λ h. least_first g n k h) l
  where
    go :
        (b : Bool) → ltb (g (suc n)) (g (first_least g n)) ≡ b → (k < first_least g n → g (first_least g n) < g k) →
        k < cond b (suc n) (first_least g n) → g (cond b (suc n) (first_least g n)) < g k
    go true t ih h = omega (arith, ltb-true (g (suc n)) (g (first_least g n)) t, least-low g n k (le_of_suc-le-suc h))
    go false t ih h = ih h

-- and nothing else is so
pub least-only :
    (g : ℕ → ℕ) (n p : ℕ) → p ≤ n → ((k : ℕ) → k ≤ n → g p ≤ g k) → ((k : ℕ) → k < p → g p < g k) → p ≡ first_least g n
least-only g n p l low first =
    le_antisymm
    (after (λ (h : first_least g n < p). not-le_of_lt (first (first_least g n) h) (least-low g n p l)))
    (after (λ (h : p < first_least g n). not-le_of_lt (least_first g n p h) (low (first_least g n) (least-within g n))))
  where
    after : {a b : ℕ} → (b < a → ⊥) → a ≤ b
    after {a} {b} none = le_of_suc-le-suc (lt_of_not-le {n = suc b} {m = a} none)

-- ---- one place more, in the code's terms

pub least-none : (g : ℕ → ℕ) → first_least g 0 ≡ 0
unfolding first_least
least-none g = refl

chosen : (b d : Bool) (x y z : ℕ) → b ≡ d → cond d x y ≡ z → cond b x y ≡ z
chosen b d x y z e h = rw e h

pub least-moves : (g : ℕ → ℕ) (n : ℕ) → g (n + 1) < g (first_least g n) → first_least g (n + 1) ≡ n + 1
unfolding first_least
least-moves g n h = rw (add-one n) (chosen _ true (suc n) _ _ (lt-ltb (g (suc n)) (g (first_least g n)) (rw (add-one n) at h)) refl)

pub least_stays : (g : ℕ → ℕ) (n : ℕ) → g (first_least g n) ≤ g (n + 1) → first_least g (n + 1) ≡ first_least g n
unfolding first_least
least_stays g n h = rw (add-one n) (chosen _ false (suc n) _ _ (le-ltb (g (suc n)) (g (first_least g n)) (rw (add-one n) at h)) refl)
