use mathlib.Core.Path.{refl}
use Rattle.limits.proofs.discount_room.Goals as goal

pub returns : goal.returns
returns c = refl
