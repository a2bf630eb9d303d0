use Rattle.std.proofs.Common.{◌≡◌, ◌∙◌, ◌<◌, refl, ap, arith, length-take}
use Rattle.std.proofs.Math.Seq.{get_or-take}
use Rattle.shelf_laws.specs.Shelf.{slot_at, nodes_of, nodes_before}
use Rattle.shelf_laws.proofs.SlotLaws.{before_more, before-most, nodes-most}
use Rattle.shelf.proofs.slots.nodes_before.Goals as goal
use Rattle.shelf.proofs.slots.nodes_before.Goals.{After-nodes_of-nodes}

-- the slot of this turn is the shelf's
here : (c : After-nodes_of-nodes) →
    (c.loop-slot.slot-index < c.args.count) × (c.nodes_of-nodes.result ≡ nodes_of (slot_at c.args.shelf.slots c.loop-slot.slot-index))
unfolding slot_at
here c =
    let within : c.loop-slot.slot-index < c.args.count = omega (arith, length-take c.args.count c.args.shelf.slots) in
    (within, c.nodes_of-nodes.ensures ∙ ap nodes_of (get_or-take c.args.count c.args.shelf.slots c.loop-slot.slot-index _ within))

pub loop-slot-init : goal.loop-slot-init
unfolding nodes_before
loop-slot-init c = refl

pub overflow_add-nodes : goal.overflow_add-nodes
overflow_add-nodes c =
    let slots = c.args.shelf.slots in
    let h = here c in
    omega (arith, h.0, h.1, before-most slots c.loop-slot.slot-index, nodes-most (slot_at slots c.loop-slot.slot-index))

pub loop-slot-preserved : goal.loop-slot-preserved
loop-slot-preserved c =
    let l = c.loop-slot in
    let slots = c.args.shelf.slots in
    before_more slots l.slot-index l.nodes _ (slot_at slots l.slot-index) l.invariant refl (here (goal.at.loop-slot-preserved c).After-nodes_of-nodes).1
