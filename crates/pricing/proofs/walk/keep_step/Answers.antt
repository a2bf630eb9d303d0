use native.Mathlib.Omega.{arith}
use Rattle.pricing.proofs.StepParts.{table-room, discount-room, later-next, part-within, part-rollable, part-bond}
use Rattle.pricing.proofs.StepParts.{shape-within, kept-room, part-paid, part-laid}
use Rattle.pricing.proofs.walk.keep_step.Goals as goal

pub part-requires : goal.part-requires
part-requires c =
    let ready = c.requires.0 in
    table-room _ _ _ _ ready.tree ready.inside _ c.row_shape-shape.ensures _ ready.table

pub part-requires-2 : goal.part-requires-2
part-requires-2 c =
    let ready = c.requires.0 in
    discount-room _ _ _ _ ready.tree ready.inside _ c.row_shape-shape.ensures

pub bond_row-greatest-requires : goal.bond_row-greatest-requires
bond_row-greatest-requires c =
    let ready = c.requires.0 in
    let e = c.row_shape-shape.ensures in
    let d = c.part-2.ensures in (
      part-rollable _ _ _ _ ready.tree ready.inside _ e _ d _ ready.table _ c.part.ensures,
      later-next _ _ _ _ ready.tree ready.inside _ e _ (omega arith) c.requires.1,
      omega (arith, part-within _ _ _ _ ready.tree ready.inside _ e _ d),
      ready.flow-most,
    )

pub keep_row-requires : goal.keep_row-requires
keep_row-requires c =
    let ready = c.requires.0 in
    let e = c.row_shape-shape.ensures in (
      shape-within _ _ _ _ ready.tree ready.inside _ e,
      kept-room _ _ _ _ ready.tree ready.inside _ e c.args.kept.now c.requires.2,
      part-paid _ _ _ _ ready.tree ready.inside _ e _ c.part-2.ensures _ ready.table _ c.part.ensures _ _ _ _
          c.bond_row-greatest.ensures,
    )

pub returns : goal.returns
returns c =
    let ready = c.requires.0 in
    let e = c.row_shape-shape.ensures in
    record {
      rolled = part-bond _ _ _ _ ready.tree ready.inside _ e _ c.part-2.ensures _ ready.table _ c.part.ensures _ _ _ _
          c.bond_row-greatest.ensures;
      laid = part-laid _ _ _ _ ready.tree ready.inside _ e _ _ _ c.keep_row.ensures;
    }
