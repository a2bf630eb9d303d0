use mathlib.Core.Path.{refl}
use Rattle.limits.proofs.state_price_room.Goals as goal

pub returns : goal.returns
returns c = refl
