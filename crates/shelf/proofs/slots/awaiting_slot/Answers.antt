use Rattle.shelf_laws.proofs.SlotLaws.{awaiting-is}
use Rattle.shelf.proofs.slots.awaiting_slot.Goals as goal

pub returns : goal.returns
returns c = awaiting-is _ c.no_rows-rows.ensures _ _
