use Rattle.std.proofs.Common.{◌≡◌}
use Rattle.shelf_laws.specs.Shelf.{nodes_before}
use Rattle.shelf.proofs.slots.nodes_before.Given as goal

abbrev pub invariant-loop-slot : goal.invariant-loop-slot
invariant-loop-slot l = l.nodes ≡ nodes_before l.fn.shelf.slots l.slot-index
