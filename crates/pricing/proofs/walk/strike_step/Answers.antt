use native.Mathlib.Omega.{arith}
use Rattle.pricing.proofs.StepParts.{table-room, discount-room, kept-room, later-next, part-within, part-beside, part-rollable, part-strike}
use Rattle.pricing.proofs.walk.strike_step.Goals as goal

pub part-requires : goal.part-requires
part-requires c =
    let ready = c.requires.0 in
    table-room _ _ _ _ ready.tree ready.inside _ c.row_shape-shape.ensures _ ready.table

pub part-requires-2 : goal.part-requires-2
part-requires-2 c =
    let ready = c.requires.0 in
    discount-room _ _ _ _ ready.tree ready.inside _ c.row_shape-shape.ensures

pub part-requires-3 : goal.part-requires-3
part-requires-3 c =
    let ready = c.requires.0 in
    kept-room _ _ _ _ ready.tree ready.inside _ c.row_shape-shape.ensures c.args.kept.now c.requires.2

pub strike_row-requires : goal.strike_row-requires
strike_row-requires c =
    let ready = c.requires.0 in
    let e = c.row_shape-shape.ensures in
    let d = c.part-2.ensures in (
      part-rollable _ _ _ _ ready.tree ready.inside _ e _ d _ ready.table _ c.part.ensures,
      later-next _ _ _ _ ready.tree ready.inside _ e _ (omega arith) c.requires.1,
      part-beside _ _ _ _ ready.tree ready.inside _ e _ d _ _ c.requires.2 c.part-3.ensures,
      omega (arith, part-within _ _ _ _ ready.tree ready.inside _ e _ d),
    )

pub returns : goal.returns
returns c =
    let ready = c.requires.0 in
    part-strike _ _ _ _ ready.tree ready.inside _ c.row_shape-shape.ensures _ c.part-2.ensures _ ready.table _
    c.part.ensures 0 _ _ c.args.right.listed _ _ c.part-3.ensures c.strike_row.ensures
