use mathlib.Core.Path.{ap}
use lib.ListN.{replicate}
use Rattle.shelf_laws.specs.declared.Slot.{Slot}
use Rattle.shelf_laws.specs.Shelf.{empty_slots}
use Rattle.shelf.proofs.empty_shelf.Goals as goal

pub returns : goal.returns
unfolding empty_slots
returns c = ap (λ (s : Slot). replicate 8 s) c.empty_slot-slot.ensures
