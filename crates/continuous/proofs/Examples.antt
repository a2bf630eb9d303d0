-- Worked examples of request (i) of document 02, which antt computes.
-- Assumes nothing.
use mathlib.Core.Path.{◌≡◌, refl}
use lib.IntN.{pos, negsuc}
use Rattle.arithmetic.specs.Rounding.{round_down}
use Rattle.arithmetic.specs.Sum.{sum}
use Rattle.arithmetic.specs.Answers.{refused, answered}
use Rattle.factor.specs.Series.{term, series}
use Rattle.continuous.specs.Continuous.{square_down, fourth_power, side_discount, continuous_discount, continuous_answer}

-- the ends of the limit pass, and the next numbers do not
pub greatest-amount : continuous_answer (pos 4000000000) ≡ answered 18315638
unfolding continuous_answer continuous_discount side_discount fourth_power square_down series sum term round_down
greatest-amount = refl

pub least-amount : continuous_answer (negsuc 3999999999) ≡ answered 54598149590
unfolding continuous_answer continuous_discount side_discount fourth_power square_down series sum term round_down
least-amount = refl

pub beyond-greatest : continuous_answer (pos 4000000001) ≡ refused 7
unfolding continuous_answer
beyond-greatest = refl

pub beyond-least : continuous_answer (negsuc 4000000000) ≡ refused 7
unfolding continuous_answer
beyond-least = refl

-- above 0 a greater amount may have a greater discount
pub before-rise : continuous_discount (pos 158991016) ≡ 853004017
unfolding continuous_discount side_discount fourth_power square_down series sum term round_down
before-rise = refl

pub after-rise : continuous_discount (pos 158991020) ≡ 853004021
unfolding continuous_discount side_discount fourth_power square_down series sum term round_down
after-rise = refl
