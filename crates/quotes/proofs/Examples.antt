-- Worked examples of document 01, computed. `round binary64 s n d` is the float nearest to n / d, negative where s is true.
-- Assumes nothing.
use mathlib.Core.Path.{◌≡◌, refl}
use mathlib.Core.Bool.{true}
use lib.Ieee.{binary64, round}
use Rattle.arithmetic.specs.Answers.{answered}
use Rattle.figure.specs.Figure.{billionths_of, beyond}
use Rattle.quotes.specs.Quotes.{lone_answer}

-- * the rate -0.0025 with one step a year, for row 1
pub rate-discount : lone_answer 1 6 (record { row = 1; figure = round binary64 true 25 10000 }) ≡ answered 1002506265
unfolding lone_answer round billionths_of beyond
rate-discount = refl
