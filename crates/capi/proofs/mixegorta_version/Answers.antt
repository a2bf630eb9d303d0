use mathlib.Core.Path.{refl}
use Rattle.capi.proofs.mixegorta_version.Goals as goal

pub returns : goal.returns
returns c = refl
