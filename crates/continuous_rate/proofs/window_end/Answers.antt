use Rattle.std.proofs.Common.{arith}
use Rattle.continuous_rate.proofs.window_end.Goals as goal

pub returns : goal.returns
returns c = (omega arith, omega arith, λ h. omega arith)
