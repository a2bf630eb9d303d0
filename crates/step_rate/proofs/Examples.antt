-- Worked examples of document 01, computed.
-- Assumes nothing.
use mathlib.Core.Path.{◌≡◌, refl}
use lib.IntN.{pos, negsuc}
use Rattle.arithmetic.specs.Rounding.{nearest}
use Rattle.step_rate.specs.StepRate.{answered_rate, rate_answer}

-- * a discount of 1,000,000,001 has the rate -1
pub small-rate : rate_answer 1000000001 ≡ answered_rate (negsuc 0)
unfolding rate_answer nearest
small-rate = refl

-- a discount of one has the rate 0
pub zero-rate : rate_answer 1000000000 ≡ answered_rate (pos 0)
unfolding rate_answer nearest
zero-rate = refl

-- the node of document 01's job: -0.2493766 percent
pub job-rate : rate_answer 1002500000 ≡ answered_rate (negsuc 2493765)
unfolding rate_answer nearest
job-rate = refl

-- an exact half goes away from zero
pub half-rate : rate_answer 327680000 ≡ answered_rate (pos 2051757813)
unfolding rate_answer nearest
half-rate = refl
