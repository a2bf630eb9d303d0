use native.Mathlib.Omega.{arith}
use Rattle.pricing.proofs.StepParts.{table-room, discount-room, later-next, part-within, part-rollable, part-bond}
use Rattle.pricing.proofs.walk.bond_step.Goals as goal

pub part-requires : goal.part-requires
part-requires c =
    let ready = c.requires.0 in
    table-room _ _ _ _ ready.tree ready.inside _ c.row_shape-shape.ensures _ ready.table

pub part-requires-2 : goal.part-requires-2
part-requires-2 c =
    let ready = c.requires.0 in
    discount-room _ _ _ _ ready.tree ready.inside _ c.row_shape-shape.ensures

pub bond_row-requires : goal.bond_row-requires
bond_row-requires c =
    let ready = c.requires.0 in
    let e = c.row_shape-shape.ensures in
    let d = c.part-2.ensures in (
      part-rollable _ _ _ _ ready.tree ready.inside _ e _ d _ ready.table _ c.part.ensures,
      later-next _ _ _ _ ready.tree ready.inside _ e _ (omega arith) c.requires.1,
      omega (arith, part-within _ _ _ _ ready.tree ready.inside _ e _ d),
      ready.flow-most,
    )

pub returns : goal.returns
returns c =
    let ready = c.requires.0 in
    part-bond _ _ _ _ ready.tree ready.inside _ c.row_shape-shape.ensures _ c.part-2.ensures _ ready.table _
    c.part.ensures _ _ _ _ c.bond_row.ensures
