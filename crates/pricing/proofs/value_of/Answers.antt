use mathlib.Core.Path.{refl}
use Rattle.pricing.proofs.value_of.Goals as goal

pub returns : goal.returns
returns c = refl
