-- Figures of request (i) of document 02, which prints none: worked out here, about the definitions that the contracts cite.
-- `round binary64 s n d` is the float nearest to n / d, negative where s is true.
-- Assumes nothing.
use Rattle.std.specs.Prelude.{◌≡◌, ℕ, ◌≤◌, true, false, pos, negsuc}
use Rattle.std.specs.Float.{binary64}
use Rattle.std.specs.Float.Ieee.{round}
use Rattle.arithmetic.specs.Answers.{refused, answered}
use Rattle.quotes.specs.Quotes.{lone_answer}
use Rattle.step_rate.specs.StepRate as rate
use Rattle.continuous.specs.Continuous.{continuous_discount, continuous_answer}
use Rattle.continuous_rate.specs.ContinuousRate.{continuous_rate_answer}

pub record Yields : Type 0 where
  -- y at the ends of its limit, and beyond them
  pub greatest-amount : continuous_answer (pos 4000000000) ≡ answered 18315638
  pub least-amount : continuous_answer (negsuc 3999999999) ≡ answered 54598149590
  pub beyond-greatest : continuous_answer (pos 4000000001) ≡ refused 7
  pub beyond-least : continuous_answer (negsuc 4000000000) ≡ refused 7
  -- a greater y may have a greater P
  pub before-rise : continuous_discount (pos 158991016) ≡ 853004017
  pub after-rise : continuous_discount (pos 158991020) ≡ 853004021
  -- yields of 7 and −7 billionths, f = 2, row 1: y is 3 and −4
  pub positive-yield : lone_answer 2 9 (record { row = 1; figure = round binary64 false 7 1000000000 }) ≡ answered 1000000000
  pub negative-yield : lone_answer 2 9 (record { row = 1; figure = round binary64 true 7 1000000000 }) ≡ answered 1000000004
  -- a discount that a lower y than the one where P passes it meets best
  pub rate-by-scan : continuous_rate_answer 484106437 ≡ rate.answered_rate (pos 725450480)
  -- every discount that no P goes below, those about one, and the first with a rate below 0
  pub lowest-discounts : (v : ℕ) → 1 ≤ v → v ≤ 18315638 → continuous_rate_answer v ≡ rate.answered_rate (pos 3999999988)
  pub about-one : (v : ℕ) → 999999998 ≤ v → v ≤ 1000000002 → continuous_rate_answer v ≡ rate.answered_rate (pos 0)
  pub first_below : continuous_rate_answer 1000000003 ≡ rate.answered_rate (negsuc 3)
  -- no node discounts
  pub rate-of-nothing : continuous_rate_answer 0 ≡ rate.refused_rate
  pub rate-too-high : continuous_rate_answer 1100000001 ≡ rate.refused_rate
