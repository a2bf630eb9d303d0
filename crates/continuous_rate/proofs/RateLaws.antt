-- The sign of the continuous rate, the answer by its causes, and what a caller learns from it.
-- Assumes nothing.
use mathlib.Core.Path.{◌≡◌, refl, sym, ◌∙◌, ap, subst}
use mathlib.Core.Bool.{Bool, true, false, not, cond}
use mathlib.Core.Logic.{◌≢◌}
use Prim.Native.Nat.{ℕ, zero, suc, ◌*◌, ◌≤◌, ◌<◌}
use native.Mathlib.Omega.{arith}
use borrow.Author.Tests.{lt-ltb, le-ltb}
use lib.IntN.{ℤ, pos, neg_ℤ, nat_abs}
use lib.Signed.{lt_z}
use mir.Syntax.{w64}
use mir.Val.{to_z, of_z}
use mir.Facts.{to_z-of_z}
use Rattle.arithmetic.specs.Rounding.{one}
use Rattle.arithmetic.proofs.Numbers.{by_order, by_equal}
use Rattle.arithmetic.proofs.Signed.{fits-by-size}
use Rattle.limits.specs.Limits.{is_discount}
use Rattle.limits.proofs.LimitLaws.{discount-least, discount-most}
use Rattle.step_rate.specs.StepRate.{step_rate, rate_answer, refused_rate, answered_rate}
use Rattle.step_rate.specs.declared.Rate.{Rate}
use Rattle.step_rate.proofs.RateLaws.{rate-negative, rate-positive}
use Rattle.step_rate.proofs.RateLaws as step
use Rattle.continuous.proofs.Sides.{at_zero}
use Rattle.continuous_rate.specs.Least.{first_least}
use Rattle.continuous_rate.specs.ContinuousRate.{distance, continuous_rate, continuous_rate_answer, Nearest, SameSign}
use Rattle.continuous_rate.specs.inside.Search.{side_miss}
use Rattle.continuous_rate.proofs.LeastLaws.{least-within, least-only}
use Rattle.continuous_rate.proofs.Candidates.{rate-nearest, rate-only, rate-above, rate-below}

-- ---- the sign

whole-sign : (n : ℕ) → pos n ≢ pos 0 → (lt_z (pos n) (pos 0) ≡ false) × (lt_z (pos 0) (pos n) ≡ true)
whole-sign zero h = absurd (h refl)
whole-sign (suc n) h = (le-ltb (suc n) 0 (omega arith), lt-ltb 0 (suc n) (omega arith))

negative-sign : (n : ℕ) → neg_ℤ (pos n) ≢ pos 0 → (lt_z (neg_ℤ (pos n)) (pos 0) ≡ true) × (lt_z (pos 0) (neg_ℤ (pos n)) ≡ false)
negative-sign zero h = absurd (h refl)
negative-sign (suc n) h = (refl, refl)

-- a discount of one is met at 0, and has the rate 0
met : side_miss one false 0 ≡ 0
unfolding distance
met = rw (at_zero false) refl

at_one : continuous_rate one ≡ pos 0
at_one = rate-above one 0 (omega arith) (least-only (side_miss one false) one 0 (omega arith) nothing-less (λ k l. none k l))
  where
    nothing-less : (k : ℕ) → k ≤ one → side_miss one false 0 ≤ side_miss one false k
    nothing-less k l = omega (arith, met)

    none : (k : ℕ) → k < 0 → side_miss one false 0 < side_miss one false k
    none k l = omega arith

-- wherever the rate is not zero, its sign is the step rate's
pub rate-sign : (v : ℕ) → 0 < v → continuous_rate v ≢ pos 0 → SameSign (continuous_rate v) (step_rate v)
rate-sign v p h = by_order v one at_most above
  where
    at_most : v ≤ one → SameSign (continuous_rate v) (step_rate v)
    at_most l =
        let q = first_least (side_miss v false) one in
        let e : continuous_rate v ≡ pos (4 * q) = rate-above v q l refl in
        let s = whole-sign (4 * q) (subst (λ (y : ℤ). y ≢ pos 0) e h) in
        by_equal v one
        (λ (same : v ≡ one). absurd (h (ap continuous_rate same ∙ at_one)))
        (λ other. record {
          negative = ap (λ (y : ℤ). lt_z y (pos 0)) e ∙ s.0 ∙ sym (rate-negative v p ∙ le-ltb one v l);
          positive = ap (λ (y : ℤ). lt_z (pos 0) y) e ∙ s.1 ∙ sym (rate-positive v p ∙ lt-ltb v one (omega arith));
        })

    above : one < v → SameSign (continuous_rate v) (step_rate v)
    above l =
        let q = first_least (side_miss v true) one in
        let e : continuous_rate v ≡ neg_ℤ (pos (4 * q)) = rate-below v q (omega arith) refl in
        let s = negative-sign (4 * q) (subst (λ (y : ℤ). y ≢ pos 0) e h) in
        record {
          negative = ap (λ (y : ℤ). lt_z y (pos 0)) e ∙ s.0 ∙ sym (rate-negative v p ∙ lt-ltb one v l);
          positive = ap (λ (y : ℤ). lt_z (pos 0) y) e ∙ s.1 ∙ sym (rate-positive v p ∙ le-ltb v one (omega arith));
        }

-- ---- the answer, by its causes

module _ (v : ℕ) where
  pub answer-refused : is_discount v ≡ false → continuous_rate_answer v ≡ refused_rate
  unfolding continuous_rate_answer
  answer-refused e = rw e

  -- an accepted discount has number 0 and its continuous rate
  pub answer-known : is_discount v ≡ true → continuous_rate_answer v ≡ answered_rate (continuous_rate v)
  unfolding continuous_rate_answer
  answer-known e = rw e

-- an answer with number 0 is of a discount within its limits
known-discount : (v : ℕ) → (continuous_rate_answer v).number ≡ 0 → is_discount v ≡ true
unfolding continuous_rate_answer
known-discount v = by-known (is_discount v)
  where
    by-known : (b : Bool) → (cond (not b) refused_rate (answered_rate (continuous_rate v))).number ≡ 0 → b ≡ true
    by-known true e = refl
    by-known false e = let none : ⊥ = omega arith in absurd none

-- what request (i) says, of an accepted answer
module _ (v : ℕ) (accepted : (continuous_rate_answer v).number ≡ 0) where
  pub answer-nearest : Nearest v (continuous_rate_answer v).value
  answer-nearest = rw (answer-known v (known-discount v accepted)) (rate-nearest v)

  pub answer-only : (y : ℤ) → Nearest v y → y ≡ (continuous_rate_answer v).value
  answer-only y n = rw (answer-known v (known-discount v accepted)) (rate-only v y n)

  pub answer-sign : (continuous_rate_answer v).value ≢ pos 0 → SameSign (continuous_rate_answer v).value (rate_answer v).value
  answer-sign h =
      let d = known-discount v accepted in
      let p = discount-least v d in
      let e : (continuous_rate_answer v).value ≡ continuous_rate v = ap (λ (r : Rate). r.value) (answer-known v d) in
      rw (e, step.answer-known v p (discount-most v d)) (rate-sign v p (subst (λ (y : ℤ). y ≢ pos 0) e h))

-- the nearest quotient fits
pub quotient_fits : (v q : ℕ) (below : Bool) → q ≡ first_least (side_miss v below) one → 4 * q ≤ 4000000000
quotient_fits v q below e = omega (arith, e, least-within (side_miss v below) one)

-- the value of any answer is at most four times one in size, and is the same when read back from its bits
module _ (v : ℕ) (r : Rate) (e : r ≡ continuous_rate_answer v) where
  pub value-bound : nat_abs r.value ≤ 4 * one
  unfolding continuous_rate_answer
  value-bound = subst (λ (q : Rate). nat_abs q.value ≤ 4 * one) (sym e) (by-known (is_discount v))
    where
      by-known : (b : Bool) → nat_abs (cond (not b) refused_rate (answered_rate (continuous_rate v))).value ≤ 4 * one
      by-known true = omega (arith, (rate-nearest v).within)
      by-known false = omega arith

  pub value-back : to_z w64 (of_z w64 r.value) ≡ r.value
  value-back = to_z-of_z (fits-by-size r.value (omega (arith, value-bound)))
