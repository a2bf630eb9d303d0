use native.Mathlib.Omega.{arith}
use Rattle.pricing.proofs.StepParts.{table-room, discount-room, later-next, part-within, part-rollable, part-option}
use Rattle.pricing.proofs.walk.option_step.Goals as goal

pub part-requires : goal.part-requires
part-requires c =
    let ready = c.requires.0 in
    table-room _ _ _ _ ready.tree ready.inside _ c.row_shape-shape.ensures _ ready.table

pub part-requires-2 : goal.part-requires-2
part-requires-2 c =
    let ready = c.requires.0 in
    discount-room _ _ _ _ ready.tree ready.inside _ c.row_shape-shape.ensures

pub option_row-requires : goal.option_row-requires
option_row-requires c =
    let ready = c.requires.0 in
    let e = c.row_shape-shape.ensures in
    let d = c.part-2.ensures in
    let within = part-within _ _ _ _ ready.tree ready.inside _ e _ d in (
      part-rollable _ _ _ _ ready.tree ready.inside _ e _ d _ ready.table _ c.part.ensures,
      later-next _ _ _ _ ready.tree ready.inside _ e _ (omega arith) c.requires.1,
      later-next _ _ _ _ ready.tree ready.inside _ e _ (omega arith) c.requires.2,
      omega (arith, within),
      omega (arith, within),
      ready.flow-most,
    )

pub returns : goal.returns
returns c =
    let ready = c.requires.0 in
    part-option _ _ _ _ ready.tree ready.inside _ c.row_shape-shape.ensures _ c.part-2.ensures _ ready.table _
    c.part.ensures _ _ _ c.args.right.listed _ _ c.option_row.ensures
