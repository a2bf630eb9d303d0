-- Laws of the first and of the lowest of two causes, and of what a call leaves that is refused or not.
-- Assumes nothing.
use mathlib.Core.Path.{◌≡◌, sym, ◌∙◌}
use Prim.Native.Nat.{ℕ, ◌≤◌, ◌<◌}
use native.Mathlib.Omega.{arith}
use borrow.Author.Tests.{eq-eqb, ne_eqb}
use Rattle.arithmetic.specs.Answers.{unless_refused, first_cause, lowest_cause}
use Rattle.arithmetic.proofs.Numbers.{by_equal, by_order}

module _ (cause later : ℕ) where
  pub first_some : (cause ≡ 0 → ⊥) → first_cause cause later ≡ cause
  unfolding first_cause
  first_some h = rw (ne_eqb cause 0 h)

  pub first-later : cause ≡ 0 → first_cause cause later ≡ later
  unfolding first_cause
  first-later e = rw (eq-eqb cause 0 e)

  -- neither cause was found
  pub first-both : cause ≡ 0 → later ≡ 0 → first_cause cause later ≡ 0
  first-both e l = first-later e ∙ l

  pub first-none : first_cause cause later ≡ 0 → (cause ≡ 0) × (later ≡ 0)
  first-none h = by_equal cause 0 (λ e. (e, sym (first-later e) ∙ h)) (λ n. absurd (n (sym (first_some n) ∙ h)))

pub first-most : (cause later k : ℕ) → cause ≤ k → later ≤ k → first_cause cause later ≤ k
first-most cause later k h l = by_equal cause 0 (λ e. rw (first-later cause later e) l) (λ n. rw (first_some cause later n) h)

module _ (a b : ℕ) where
  pub lowest-first : a ≡ 0 → b ≡ lowest_cause a b
  unfolding lowest_cause
  lowest-first e = rw (eq-eqb a 0 e)

  module _ (na : a ≡ 0 → ⊥) where
    pub lowest-second : b ≡ 0 → a ≡ lowest_cause a b
    unfolding lowest_cause
    lowest-second e = rw (ne_eqb a 0 na, eq-eqb b 0 e)

    module _ (nb : b ≡ 0 → ⊥) where
      pub lowest-less : a < b → a ≡ lowest_cause a b
      unfolding lowest_cause
      lowest-less h = rw (ne_eqb a 0 na, ne_eqb b 0 nb) (omega arith)

      pub lowest-more : b ≤ a → b ≡ lowest_cause a b
      unfolding lowest_cause
      lowest-more h = rw (ne_eqb a 0 na, ne_eqb b 0 nb) (omega arith)

-- with no second cause, the first
pub lowest-alone : (a b : ℕ) → b ≡ 0 → a ≡ lowest_cause a b
lowest-alone a b zb = by_equal a 0 (λ za. za ∙ sym zb ∙ lowest-first a b za) (λ na. lowest-second a b na zb)

-- no lowest cause, no cause
pub lowest-none : (a b : ℕ) → lowest_cause a b ≡ 0 → (a ≡ 0) × (b ≡ 0)
lowest-none a b e =
    by_equal a 0
    (λ za. (za, lowest-first a b za ∙ e))
    (λ na. by_equal b 0 (λ zb. absurd (na (lowest-second a b na zb ∙ e)))
    (λ nb. by_order b a (λ h. absurd (nb (lowest-more a b na nb h ∙ e))) (λ h. absurd (na (lowest-less a b na nb h ∙ e)))))

module _ {A : Type 0} (number : ℕ) (after before : A) where
  pub unless-accepted : number ≡ 0 → unless_refused number after before ≡ after
  unless-accepted z = rw (eq-eqb number 0 z)

  pub unless-refused : (number ≡ 0 → ⊥) → unless_refused number after before ≡ before
  unless-refused nz = rw (ne_eqb number 0 nz)
