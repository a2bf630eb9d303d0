-- The promises about yields and continuous rates are kept.
-- Assumes nothing.
use mathlib.Core.Path.{◌≡◌}
use mathlib.Core.Bool.{not}
use Prim.Native.Nat.{ℕ, suc}
use native.Mathlib.Omega.{arith}
use Rattle.arithmetic.specs.declared.Answer.{Answer}
use Rattle.arithmetic.specs.Answers.{refused}
use Rattle.arithmetic.specs.Frequency.{is_frequency}
use Rattle.arithmetic.specs.Within.{Within}
use Rattle.arithmetic.proofs.Numbers.{by-test}
use Rattle.continuous.specs.Continuous.{power_scale, exact_power}
use Rattle.continuous_rate.proofs.RateLaws.{answer-nearest, answer-only, answer-sign}
use Rattle.figure.specs.Figure.{billionths_of}
use Rattle.quotes.specs.declared.Point.{Point}
use Rattle.quotes.specs.Quotes.{row_known, yield_amount, kind_answer, lone_answer}
use Rattle.quotes.proofs.YieldLaws.{yield-within}
use Rattle.promises.specs.Promises.{YieldPromises}

module _ (f : ℕ) (p : Point) where
  -- what is promised of an answer, of which a refusal says nothing
  abbrev promised : Answer → Type 0
  promised a = a.number ≡ 0 → Within 100 power_scale a.value (exact_power (yield_amount f p.row (billionths_of p.figure)))

  of-refused : (n : ℕ) → promised (refused (suc n))
  of-refused n e = let none : ⊥ = omega arith in absurd none

  of-kind : promised (kind_answer f 9 p)
  unfolding kind_answer
  of-kind e = yield-within f p.row p.figure e

  yields-near : promised (lone_answer f 9 p)
  unfolding lone_answer
  yields-near =
      by-test (not (is_frequency f)) promised (refused 2) _ (λ h. of-refused 1)
      (λ h. by-test (not (row_known p.row)) promised (refused 6) (kind_answer f 9 p) (λ g. of-refused 5) (λ g. of-kind))

pub yields-kept : YieldPromises
yields-kept =
    record { yields-near = yields-near; rates-nearest = answer-nearest; rates-alone = answer-only; rates-signed = answer-sign }
