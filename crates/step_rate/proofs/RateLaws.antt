-- The step rate over whole numbers, its sign, and what a caller learns from an answer.
-- Assumes nothing.
use mathlib.Core.Path.{◌≡◌, refl, sym, ◌∙◌, ap, subst}
use mathlib.Core.Bool.{Bool, true, false, not, cond}
use Prim.Native.Nat.{ℕ, zero, suc, ◌+◌, ◌-◌, ◌*◌, ◌≤◌, ◌<◌}
use native.Mathlib.Nat.{le-div_iff_mul-le, mul-zero, zero-mul}
use native.Mathlib.Omega.{arith}
use borrow.Author.Tests.{lt-ltb, le-ltb, lt-leb, le-leb}
use lib.Dec.{ltb}
use lib.IntN.{pos, negsuc, neg_ℤ, nat_abs, ◌-ℤ◌, ◌*ℤ◌}
use lib.Signed.{lt_z}
use mir.Syntax.{w64}
use mir.Val.{to_z, of_z}
use mir.Facts.{to_z-of_z}
use Rattle.arithmetic.specs.Rounding.{one, nearest, nearest_signed}
use Rattle.arithmetic.proofs.Numbers.{by_order}
use Rattle.arithmetic.proofs.RoundingLaws.{nearest-rounds, nearest-le}
use Rattle.arithmetic.proofs.Signed.{abs-negative, fits-by-size}
use Rattle.limits.specs.Limits.{is_discount}
use Rattle.limits.proofs.LimitLaws.{discount-least, discount-most}
use Rattle.std.proofs.Common.{Result, Ok, Err, ℤ}
use Rattle.arithmetic.specs.Refusals.{cause_of}
use Rattle.arithmetic.specs.declared.Refusal.{Refusal}
use Rattle.step_rate.specs.StepRate.{rate_of}
use Rattle.step_rate.specs.declared.Rate.{Rate}
use Rattle.step_rate.specs.StepRate.{step_rate, refused_rate, answered_rate, rate_answer}

-- ---- differences with a sign

pub less-whole : (a b : ℕ) → b ≤ a → pos a -ℤ pos b ≡ pos (a - b)
less-whole a zero h = ap pos (omega arith)
less-whole a (suc b) h = rw (le-ltb a (suc b) h)

pub less-negative : (a b : ℕ) → a < b → pos a -ℤ pos b ≡ neg_ℤ (pos (b - a))
less-negative a zero h = let none : ⊥ = omega arith in absurd none
less-negative a (suc b) h = rw (lt-ltb a (suc b) h) (negative (suc b - suc a) (suc b - a) (omega arith))
  where
    negative : (m n : ℕ) → n ≡ suc m → negsuc m ≡ neg_ℤ (pos n)
    negative m n e = ap (λ (k : ℕ). neg_ℤ (pos k)) (sym e)

pub negative-times : (a b : ℕ) → neg_ℤ (pos a) *ℤ pos b ≡ neg_ℤ (pos (a * b))
negative-times zero b = rw (zero-mul b)
negative-times (suc a) b = refl

-- a quotient to the nearest goes by the magnitude, so a changed sign stays outside
pub nearest-negated : (a d : ℕ) → 0 < d → nearest_signed (neg_ℤ (pos a)) d ≡ neg_ℤ (pos (nearest a d))
unfolding nearest_signed
nearest-negated zero d h =
    let e : nearest 0 d ≡ 0 = rw mul-zero at (nearest-rounds.exact 0 d h) in
    ap pos e ∙ ap (λ (k : ℕ). neg_ℤ (pos k)) (sym e)
nearest-negated (suc a) d h = refl

-- ---- the rate on either side of one

module _ (v : ℕ) (h : 0 < v) where
  pub rate-above : one < v → step_rate v ≡ neg_ℤ (pos (nearest ((v - one) * one) v))
  unfolding step_rate
  rate-above l = rw (less-negative one v l, negative-times (v - one) one) (nearest-negated ((v - one) * one) v h)

  pub rate-within : v ≤ one → step_rate v ≡ pos (nearest ((one - v) * one) v)
  unfolding step_rate nearest_signed
  rate-within l = rw (less-whole one v l)

-- a gap of at least 1 gives a rate of at least 1 in size
least : (gap v : ℕ) → 0 < v → v ≤ 2 * (gap * one) → 1 ≤ nearest (gap * one) v
unfolding nearest
least gap v p h = (le-div_iff_mul-le {k = 2 * v} {x = 1} {y = 2 * (gap * one) + v} (omega arith)).1 (omega arith)

-- the sign of a rate of n, negated or not
below-zero : (n : ℕ) → 1 ≤ n → (lt_z (neg_ℤ (pos n)) (pos 0) ≡ true) × (lt_z (pos 0) (neg_ℤ (pos n)) ≡ false)
below-zero zero h = let none : ⊥ = omega arith in absurd none
below-zero (suc n) h = (refl, refl)

module _ (v : ℕ) (h : 0 < v) where
  -- the rate is negative exactly where the discount is above one
  pub rate-negative : lt_z (step_rate v) (pos 0) ≡ ltb one v
  rate-negative =
      by_order v one
      (λ l. rw (rate-within v h l, le-ltb one v l, le-ltb (nearest ((one - v) * one) v) 0 (omega arith)))
      (λ l. rw (rate-above v h l, lt-ltb one v l) (below-zero _ (least (v - one) v h (omega arith))).0)

  -- it is positive exactly where the discount is below one
  pub rate-positive : lt_z (pos 0) (step_rate v) ≡ ltb v one
  rate-positive =
      by_order one v
      (λ l. rw (le-ltb v one l) (not-below l))
      (λ l. rw (rate-within v h (omega arith), lt-ltb v one l) (lt-ltb 0 _ (least (one - v) v h (omega arith))))
    where
      at_one : one ≡ v → nearest ((one - v) * one) v ≤ 0
      at_one e = omega (arith, nearest-le ((one - v) * one) v h)

      not-below : one ≤ v → lt_z (pos 0) (step_rate v) ≡ false
      not-below l =
          by_order v one
          (λ k. rw (rate-within v h k) (le-ltb 0 _ (at_one (omega arith))))
          (λ k. rw (rate-above v h k) (below-zero _ (least (v - one) v h (omega arith))).1)

  -- its size is at most one × one
  pub rate-size : v ≤ 2 * one → nat_abs (step_rate v) ≤ one * one
  rate-size m =
      by_order v one
      (λ l. rw (rate-within v h l) (omega (arith, nearest-le ((one - v) * one) v h)))
      (λ l. rw (rate-above v h l, abs-negative (nearest ((v - one) * one) v)) (omega (arith, nearest-le ((v - one) * one) v h)))

-- ---- the answer, by its causes

module _ (v : ℕ) where
  pub answer-zero : v ≡ 0 → rate_answer v ≡ refused_rate
  unfolding rate_answer
  answer-zero e = rw (lt-leb 1 v (omega arith))

  pub answer-high : 1100000000 < v → rate_answer v ≡ refused_rate
  unfolding rate_answer
  answer-high l = rw (le-leb 1 v (omega arith), lt-leb v 1100000000 l)

  pub answer-refused : is_discount v ≡ false → rate_answer v ≡ refused_rate
  unfolding rate_answer
  answer-refused e = rw e

  -- an accepted discount has number 0 and its step rate
  pub answer-known : 0 < v → v ≤ 1100000000 → rate_answer v ≡ answered_rate (step_rate v)
  unfolding rate_answer
  answer-known h l = rw (le-leb 1 v h, le-leb v 1100000000 l)

  -- an accepted answer is negative exactly where the discount is above one, positive exactly where it is below
  pub answer-sign :
      0 < v → v ≤ 1100000000 →
      (lt_z (rate_answer v).value (pos 0) ≡ ltb one v) × (lt_z (pos 0) (rate_answer v).value ≡ ltb v one)
  answer-sign h l = rw (answer-known h l) (rate-negative v h, rate-positive v h)

-- the value of any answer is at most one × one in size, and is the same when read back from its bits
module _ (v : ℕ) (r : Rate) (e : r ≡ rate_answer v) where
  pub value-bound : nat_abs r.value ≤ one * one
  unfolding rate_answer
  value-bound = subst (λ (q : Rate). nat_abs q.value ≤ one * one) (sym e) (by-known (is_discount v) refl)
    where
      by-known : (b : Bool) → is_discount v ≡ b → nat_abs (cond (not b) refused_rate (answered_rate (step_rate v))).value ≤ one * one
      by-known true h = rate-size v (discount-least v h) (omega (arith, discount-most v h))
      by-known false h = omega arith

  pub value-back : to_z w64 (of_z w64 r.value) ≡ r.value
  value-back = to_z-of_z (fits-by-size r.value (omega (arith, value-bound)))

-- the code's ratio fits an `i64`
pub ratio-small : (r gap v : ℕ) → r ≡ nearest (gap * one) v → 0 < v → gap ≤ one → r ≤ one * one
ratio-small r gap v e h l = omega (arith, e, nearest-le (gap * one) v h)

-- the number of a rate that may be refused
pub rate-cause : (r : Result ℤ Refusal) → cause_of r ≡ (rate_of r).number
rate-cause (Ok value) = refl
rate-cause (Err refusal) = refl
