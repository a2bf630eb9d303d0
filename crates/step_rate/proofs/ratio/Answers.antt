use mathlib.Core.Path.{refl}
use Rattle.arithmetic.specs.Rounding.{nearest}
use Rattle.step_rate.proofs.ratio.Goals as goal

pub returns : goal.returns
unfolding nearest
returns c = refl
