use mathlib.Core.Path.{refl}
use Rattle.shelf_laws.specs.Shelf.{slot_at}
use Rattle.shelf.proofs.slots.slot_at.Goals as goal

pub returns : goal.returns
unfolding slot_at
returns c = refl
