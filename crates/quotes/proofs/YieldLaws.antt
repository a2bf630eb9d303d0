-- The amount of a yearly yield, and the law of its discount.
-- Assumes nothing.
use mathlib.Core.Path.{◌≡◌, refl, sym, ◌∙◌, ap}
use mathlib.Core.Bool.{Bool, true, false, cond}
use Prim.Native.Nat.{ℕ, zero, suc, ◌+◌, ◌-◌, ◌*◌, ◌/◌, ◌≤◌, ◌<◌}
use native.Mathlib.Nat.{le_trans, mul-zero, div-le_self}
use native.Mathlib.Omega.{arith}
use borrow.Author.Tests.{ltb-true}
use lib.IntN.{ℤ, pos, negsuc, neg_ℤ, nat_abs}
use lib.Signed.{lt_z}
use lib.Ieee.{Float}
use Rattle.arithmetic.specs.Within.{Within}
use Rattle.std.proofs.Common.{Err}
use Rattle.arithmetic.specs.Refusals.{number_of, answer_of}
use Rattle.arithmetic.specs.declared.Answer.{Answer}
use Rattle.arithmetic.specs.declared.Refusal.{Refusal}
use Rattle.arithmetic.proofs.RefusalLaws.{refusal-some}
use Rattle.arithmetic.specs.Answers.{refused, answered}
use Rattle.arithmetic.specs.Rounding.{round_down, round_up, round_down_signed}
use Rattle.arithmetic.proofs.Numbers.{by_order}
use Rattle.arithmetic.proofs.RoundingLaws.{down-rounds, up-exact}
use Rattle.continuous.specs.Continuous.{amount_limit, continuous_discount, continuous_answer, exact_power, power_scale}
use Rattle.continuous.proofs.Within.{continuous-within}
use Rattle.continuous.proofs.Answers.{amount-refused, amount-accepted}
use Rattle.figure.specs.Figure.{beyond, billionths_of}
use Rattle.quotes.specs.declared.Quote.TheVariants.{YearlyYield}
use Rattle.quotes.specs.Quotes.{in_range, yield_amount, yield_discount, ranged_answer, figure_answer, quote_answer}
use Rattle.quotes.proofs.QuoteLaws.{range-bounds, ranged-none}

-- down of a negative number is away from zero
down-negated : (a d : ℕ) → 0 < d → round_down_signed (neg_ℤ (pos a)) d ≡ neg_ℤ (pos (round_up a d))
unfolding round_down_signed
down-negated zero d h = ap pos (rw mul-zero at (down-rounds.exact 0 d h)) ∙ ap (λ (x : ℕ). neg_ℤ (pos x)) (sym (rw mul-zero at (up-exact 0 d h)))
down-negated (suc a) d h = refl

true≢false : true ≡ false → ⊥
true≢false q = let z : ◌≡◌ {A = ℕ} 0 1 = cc in omega arith

-- y by the size m of the yield and its sign
module _ (f t m : ℕ) where
  pub amount-above : (r : ℤ) → m ≡ nat_abs r → lt_z r (pos 0) ≡ false → pos (t * m / f) ≡ yield_amount f t r
  unfolding yield_amount round_down_signed round_down
  amount-above (pos n) e h = rw e refl
  amount-above (negsuc n) e h = absurd (true≢false h)

  pub amount-below : (r : ℤ) → 1 ≤ f → m ≡ nat_abs r → lt_z r (pos 0) ≡ true → neg_ℤ (pos ((t * m + (f - 1)) / f)) ≡ yield_amount f t r
  unfolding yield_amount round_up
  amount-below (pos n) p e h = let l : n < 0 = ltb-true n 0 h in let none : ⊥ = omega arith in absurd none
  amount-below (negsuc n) p e h = rw e (sym (down-negated (t * suc n) f p))

-- and it is small
pub quotient-small : (a f : ℕ) → a ≤ 600000000011 → a / f ≤ 600000000011
quotient-small a f h = le_trans (div-le_self a f) h

-- ---- the law of request (i), of a quote that is accepted

-- an answer with number 0 gives P, which is in range and so no 0
accepted-ranged : (p : ℕ) → (ranged_answer p).number ≡ 0 → ((ranged_answer p).value ≡ p) × (1 ≤ p) × (p ≤ 2000000000)
unfolding ranged_answer
accepted-ranged p = by-range (in_range p) refl
  where
    by-range :
        (b : Bool) → in_range p ≡ b → (cond b (answered p) (refused 7)).number ≡ 0 →
        ((cond b (answered p) (refused 7)).value ≡ p) × (1 ≤ p) × (p ≤ 2000000000)
    by-range true h e = let r = range-bounds p h in (refl, omega arith, r.1)
    by-range false h e = let none : ⊥ = omega arith in absurd none

-- y is within its limit, and P is F of y
accepted-amount : (y : ℤ) → 1 ≤ (continuous_answer y).value → (nat_abs y ≤ amount_limit) × ((continuous_answer y).value ≡ continuous_discount y)
accepted-amount y h =
    by_order (nat_abs y) amount_limit
    (λ l. (l, ap (λ (a : Answer). a.value) (amount-accepted y l)))
    (λ l. let none : ⊥ = nothing (ap (λ (a : Answer). a.value) (amount-refused y l)) in absurd none)
  where
    nothing : (continuous_answer y).value ≡ 0 → ⊥
    nothing e = omega arith

ranged-within :
    (y : ℤ) → (ranged_answer (continuous_answer y).value).number ≡ 0 →
    Within 100 power_scale (ranged_answer (continuous_answer y).value).value (exact_power y)
ranged-within y e =
    let r = accepted-ranged (continuous_answer y).value e in
    let a = accepted-amount y r.1 in
    rw (r.0 ∙ a.1) (continuous-within y a.0 (omega (arith, r.2, a.1)))

-- P of a yearly yield is within 100 of the fourth power of the exact series at a quarter of y
pub yield-within :
    (f t : ℕ) (x : Float) → (quote_answer f t (YearlyYield x)).number ≡ 0 →
    Within 100 power_scale (quote_answer f t (YearlyYield x)).value (exact_power (yield_amount f t (billionths_of x)))
unfolding quote_answer figure_answer yield_discount
yield-within f t x = by-figure (beyond x)
  where
    y : ℤ
    y = yield_amount f t (billionths_of x)

    by-figure :
        (b : Bool) → (cond b (refused 7) (ranged_answer (continuous_answer y).value)).number ≡ 0 →
        Within 100 power_scale (cond b (refused 7) (ranged_answer (continuous_answer y).value)).value (exact_power y)
    by-figure true e = let none : ⊥ = omega arith in absurd none
    by-figure false e = ranged-within y e

-- an amount that is refused gives its own refusal
pub amount-kept :
    (y : ℤ) (r : Refusal) → answer_of (Err r) ≡ continuous_answer y → refused (number_of r) ≡ ranged_answer (continuous_answer y).value
amount-kept y r e =
    by_order (nat_abs y) amount_limit
    (λ l. absurd (refusal-some r (ap (λ (a : Answer). a.number) (e ∙ amount-accepted y l))))
    (λ l. e ∙ amount-refused y l
    ∙ sym (ap (λ (a : Answer). ranged_answer a.value) (amount-refused y l) ∙ ranged-none 0 refl))
