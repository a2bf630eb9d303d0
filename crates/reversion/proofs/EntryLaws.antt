-- The answers of the entries, and what their numbers say.
-- Assumes nothing.
use mathlib.Core.Path.{◌≡◌, refl, ◌∙◌, ap}
use mathlib.Core.Bool.{Bool, true, false, not}
use Prim.Native.Nat.{ℕ, ◌≤◌, ◌<◌}
use native.Mathlib.Omega.{arith}
use borrow.Author.Tests.{lt-ltb, le-ltb, ltb-false}
use lib.Dec.{ltb}
use Rattle.arithmetic.specs.Rounding.{one}
use Rattle.arithmetic.specs.Answers.{refused, answered}
use Rattle.arithmetic.specs.declared.Answer.{Answer}
use Rattle.arithmetic.proofs.Numbers.{by_order, by-test}
use Rattle.limits.specs.Limits.{most_reversion}
use Rattle.reversion.specs.Reversion.{is_version, working_reversion, variance_ratio, by_version, working_answer, ratio_answer}
use Rattle.reversion.proofs.ReversionLaws.{working-limit, ratio-most, ratio-second, ratio-same, first-same, none-same, version-second}

module _ (version b result : ℕ) where
  pub answer-beyond : most_reversion < b → by_version version b result ≡ refused 4
  unfolding by_version
  answer-beyond h = rw (lt-ltb most_reversion b h)

  module _ (h : b ≤ most_reversion) where
    pub answer-unknown : is_version version ≡ false → by_version version b result ≡ refused 7
    unfolding by_version
    answer-unknown v = rw (le-ltb most_reversion b h, v)

    pub answer-known : is_version version ≡ true → by_version version b result ≡ answered result
    unfolding by_version
    answer-known v = rw (le-ltb most_reversion b h, v)

module _ (version b : ℕ) (h : b ≤ most_reversion) (v : is_version version ≡ true) where
  pub ratio-answer-first : version ≡ 1 → ratio_answer version b ≡ answered one
  ratio-answer-first e = answer-known version b _ h v ∙ ap answered (ratio-same version b (first-same version b e))

  pub ratio-answer-none : b ≡ 0 → ratio_answer version b ≡ answered one
  ratio-answer-none z = answer-known version b _ h v ∙ ap answered (ratio-same version b (none-same version b z))

  pub ratio-answer-second : (version ≡ 1 → ⊥) → 0 < b → ratio_answer version b ≡ answered (variance_ratio b)
  ratio-answer-second e p = answer-known version b _ h v ∙ ap answered (ratio-second version b (version-second version v e) p)

-- a bound of the number answered, with 0 for a refusal
value-most : (version b result m : ℕ) → (b ≤ most_reversion → result ≤ m) → (by_version version b result).value ≤ m
unfolding by_version
value-most version b result m h =
    by-test (ltb most_reversion b) (λ (a : Answer). a.value ≤ m) (refused 4) _ (λ e. omega arith)
    (λ e. by-test (not (is_version version)) (λ (a : Answer). a.value ≤ m) (refused 7) (answered result) (λ f. omega arith)
    (λ f. h (ltb-false most_reversion b e)))

pub working-answer-most : (version b : ℕ) → (working_answer version b).value ≤ most_reversion
working-answer-most version b = value-most version b _ most_reversion (working-limit version b)

pub ratio-answer-most : (version b : ℕ) → (ratio_answer version b).value ≤ one
ratio-answer-most version b = value-most version b _ one (ratio-most version b)

-- what an answer's number says, for b within its limit: 0 where there is such a version, and the value with it
module _ (version b result : ℕ) (a : Answer) (e : a ≡ by_version version b result) (h : b ≤ most_reversion) where
  known : is_version version ≡ true → a ≡ answered result
  known v = e ∙ answer-known version b result h v

  unknown : is_version version ≡ false → a ≡ refused 7
  unknown v = e ∙ answer-unknown version b result h v

  pub number-zero : a.number ≡ 0 → (is_version version ≡ true) × (a.value ≡ result)
  number-zero z = by-known (is_version version) refl
    where
      by-known : (t : Bool) → is_version version ≡ t → (is_version version ≡ true) × (a.value ≡ result)
      by-known true v = (v, ap (λ (x : Answer). x.value) (known v))
      by-known false v = absurd (omega (arith, ap (λ (x : Answer). x.number) (unknown v)))

  pub number-above : (a.number ≡ 0 → ⊥) → is_version version ≡ false
  number-above nz = by-known (is_version version) refl
    where
      by-known : (t : Bool) → is_version version ≡ t → is_version version ≡ false
      by-known true v = absurd (nz (ap (λ (x : Answer). x.number) (known v)))
      by-known false v = v

-- the working reversion, where it is answered
pub working-found : (version b : ℕ) → (working_answer version b).number ≡ 0 → (working_answer version b).value ≡ working_reversion version b
working-found version b z =
    by_order b most_reversion
    (λ h. (number-zero version b (working_reversion version b) (working_answer version b) refl h z).1)
    (λ h. absurd (omega (arith, ap (λ (x : Answer). x.number) (answer-beyond version b (working_reversion version b) h))))
