-- Document 01's starred figures of the factor, which antt computes.
-- Assumes nothing.
use mathlib.Core.Path.{◌≡◌, refl}
use mathlib.Core.Bool.{true, false}
use lib.IntN.{pos, negsuc}
use Rattle.arithmetic.specs.Rounding.{one, round_down}
use Rattle.arithmetic.specs.Sum.{sum}
use Rattle.factor.specs.Series.{term, series, falling}
use Rattle.factor.specs.Factor.{factor}

-- y = one: the sum, and the sum with alternating signs
pub sum-at-one : series true (term one) ≡ 2718281823
unfolding series sum term round_down
sum-at-one = refl

pub alternating-at-one : series false (term one) ≡ 367879441
unfolding series sum term round_down
alternating-at-one = refl

-- the same as the factors of nodes -1 and 1 at spacing one
pub factor-below-at-one : factor (negsuc 0) one ≡ 2718281823
unfolding factor
factor-below-at-one = sum-at-one

pub factor-above-at-one : factor (pos 1) one ≡ 367879441
unfolding factor
factor-above-at-one = alternating-at-one

-- the exact series' denominator has 12!
pub twelve-factorial : falling 12 ≡ 479001600
unfolding falling
twelve-factorial = refl
