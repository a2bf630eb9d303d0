-- Every figure of request (i) that is worked out here holds.
-- Assumes nothing.
use mathlib.Core.Path.{refl}
use lib.Ieee.{round}
use Rattle.arithmetic.specs.Rounding.{round_down, round_up}
use Rattle.arithmetic.specs.Sum.{sum}
use Rattle.factor.specs.Series.{term, series}
use Rattle.continuous.specs.Continuous.{square_down, fourth_power, side_discount, continuous_discount}
use Rattle.figure.specs.Figure.{billionths_of, beyond}
use Rattle.quotes.specs.Quotes.{lone_answer}
use Rattle.continuous.proofs.Examples as discounts
use Rattle.continuous_rate.proofs.Examples as rates
use Rattle.worked_examples.specs.Yields.{Yields}

pub yields : Yields
unfolding lone_answer round billionths_of beyond continuous_discount side_discount fourth_power square_down series sum term round_down round_up
yields =
    record {
      greatest-amount = discounts.greatest-amount;
      least-amount = discounts.least-amount;
      beyond-greatest = discounts.beyond-greatest;
      beyond-least = discounts.beyond-least;
      before-rise = discounts.before-rise;
      after-rise = discounts.after-rise;
      positive-yield = refl;
      negative-yield = refl;
      rate-by-scan = rates.rate-by-scan;
      lowest-discounts = rates.lowest-discounts;
      about-one = rates.about-one;
      first_below = rates.first_below;
      rate-of-nothing = rates.rate-of-nothing;
      rate-too-high = rates.rate-too-high;
    }
