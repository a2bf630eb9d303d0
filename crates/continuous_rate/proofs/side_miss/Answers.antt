use Rattle.std.proofs.Common.{arith}
use Rattle.continuous_rate.specs.ContinuousRate.{distance}
use Rattle.continuous_rate.proofs.side_miss.Goals as goal

pub returns : goal.returns
unfolding distance
returns c = omega arith
