use mathlib.Core.Path.{refl}
use Rattle.limits.proofs.is_reversion.Goals as goal

pub returns : goal.returns
returns c = refl
