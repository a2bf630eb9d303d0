use mathlib.Core.Path.{◌≡◌, refl, sym, ◌∙◌, ap}
use mathlib.Core.Bool.{Bool, true, false}
use Prim.Native.Nat.{ℕ, suc, ◌/◌, ◌≤◌, ◌<◌}
use native.Mathlib.Nat.{one-mul}
use native.Mathlib.Omega.{arith}
use borrow.Author.Tests.{lt-ltb, le-ltb}
use lib.IntN.{ℤ, pos, negsuc, nat_abs}
use lib.Signed.{lt_z}
use mir.Syntax.{w64}
use mir.Val.{SFits, to_z, of_z}
use mir.Facts.{to_z-of_z}
use Rattle.arithmetic.specs.Rounding.{one, round_down}
use Rattle.arithmetic.specs.Answers.{refused, answered}
use Rattle.std.proofs.Common.{Result}
use Rattle.std.specs.Result.{IsOk}
use Rattle.arithmetic.specs.Refusals.{answer_of}
use Rattle.arithmetic.specs.declared.Answer.{Answer}
use Rattle.arithmetic.specs.declared.Refusal.{Refusal}
use Rattle.arithmetic.proofs.RefusalLaws.{answer-ok}
use Rattle.factor.specs.Series.{term, series}
use Rattle.factor.specs.Factor.{side_factor, side_answer}
use Rattle.factor.proofs.FactorLaws.{side-accepted}
use Rattle.continuous.specs.Continuous.{amount_limit, quarter_of, fourth_power, side_discount, continuous_discount, continuous_answer, quotient_answer}
use Rattle.continuous.proofs.Sides.{quotient-most}

-- The answers, by their causes.
-- Assumes nothing.

module _ (q : ℕ) (below : Bool) where
  pub quotient-refused : one < q → quotient_answer q below ≡ refused 7
  unfolding quotient_answer
  quotient-refused l = rw (lt-ltb one q l)

  pub quotient-accepted : q ≤ one → quotient_answer q below ≡ answered (side_discount q below)
  unfolding quotient_answer
  quotient-accepted l = rw (le-ltb one q l)

  -- the value of an accepted answer
  pub quotient-value : (a : Answer) → a ≡ quotient_answer q below → q ≤ one → a.value ≡ side_discount q below
  quotient-value a e l = ap (λ (r : Answer). r.value) (e ∙ quotient-accepted l)

  -- and there is such a value
  pub quotient-ok : (r : Result ℕ Refusal) → answer_of r ≡ quotient_answer q below → q ≤ one → IsOk r
  quotient-ok r e l = answer-ok r (ap (λ (a : Answer). a.number) (e ∙ quotient-accepted l))

module _ (y : ℤ) where
  pub amount-refused : amount_limit < nat_abs y → continuous_answer y ≡ refused 7
  unfolding continuous_answer
  amount-refused l = rw (lt-ltb amount_limit (nat_abs y) l)

  pub amount-accepted : nat_abs y ≤ amount_limit → continuous_answer y ≡ answered (continuous_discount y)
  unfolding continuous_answer
  amount-accepted l = rw (le-ltb amount_limit (nat_abs y) l)

  -- by the quotient and the side
  pub amount-side : nat_abs y ≤ amount_limit → quotient_answer (quarter_of y) (lt_z y (pos 0)) ≡ continuous_answer y
  unfolding continuous_discount
  amount-side l = quotient-accepted (quarter_of y) (lt_z y (pos 0)) (quotient-most y l) ∙ sym (amount-accepted l)

-- F of y at or above 0, and below it
pub discount-above : (m : ℕ) → continuous_discount (pos m) ≡ side_discount (round_down m 4) false
unfolding continuous_discount
discount-above m = ap (side_discount (round_down m 4)) (le-ltb m 0 (omega arith))

pub discount-below : (m : ℕ) → continuous_discount (negsuc m) ≡ side_discount (round_down (suc m) 4) true
unfolding continuous_discount
discount-below m = refl

-- ---- in the code's terms

-- the series at q is the factor of a node next to the middle one
pub series-of-node : (q : ℕ) (below : Bool) (a : Answer) → a ≡ side_answer 1 below q → q ≤ one → a.value ≡ series below (term q)
unfolding side_factor
series-of-node q below a e l =
    ap (λ (r : Answer). r.value) (e ∙ side-accepted 1 below q (omega arith)) ∙ ap (λ (x : ℕ). series below (term x)) (one-mul q)

pub quotient-found : (q : ℕ) (below : Bool) (s r : ℕ) → s ≡ series below (term q) → r ≡ fourth_power s → q ≤ one → answered r ≡ quotient_answer q below
unfolding side_discount
quotient-found q below s r e f l = ap answered (f ∙ ap fourth_power e) ∙ sym (quotient-accepted q below l)

-- y is the number of which the code holds the bits
pub amount-found :
    (y : ℤ) (size : ℕ) → SFits w64 y → size ≡ nat_abs y → size ≤ amount_limit →
    quotient_answer (size / 4) (lt_z (to_z w64 (of_z w64 y)) (pos 0)) ≡ continuous_answer y
unfolding round_down
amount-found y size f e l = rw (to_z-of_z f, e) (amount-side y (rw e at l))
