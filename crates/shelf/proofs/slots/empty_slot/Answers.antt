use Rattle.shelf_laws.proofs.SlotLaws.{empty-is}
use Rattle.shelf.proofs.slots.empty_slot.Goals as goal

pub returns : goal.returns
returns c = empty-is _ c.no_rows-rows.ensures
