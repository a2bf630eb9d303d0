use mathlib.Core.Path.{◌∙◌}
use native.Mathlib.Omega.{arith}
use mir.Facts.{to_z-of_z}
use Rattle.node_lines.proofs.RowLaws.{node-fits, node-is, line-room, line-put}
use Rattle.text_laws.proofs.LineLaws.{node-ok}
use Rattle.node_lines.proofs.put_node_line.Goals as goal

pub overflow_sub-node : goal.overflow_sub-node
overflow_sub-node c = let a = c.args in node-fits a.index a.half_width (omega arith) (omega arith)

pub unwrap-requires : goal.unwrap-requires
unwrap-requires c =
    let a = c.args in
    node-ok a.out.now a.end a.row a.discount _ c.node_line.result c.requires.4 c.requires.5 c.requires.2 c.requires.3
    (c.node_line.ensures.value, c.node_line.ensures.out_after)

pub returns : goal.returns
returns c =
    let a = c.args in
    let node = to_z-of_z (node-fits a.index a.half_width (omega arith) (omega arith))
    ∙ node-is a.index a.half_width (omega arith) (omega arith) in
    let room = line-room a.row a.half_width a.index a.discount c.ranges.row.fits (omega arith) (omega arith) c.ranges.discount.fits in
    line-put a.out.now _ a.row a.end a.half_width a.index a.discount _ node room c.requires.4 c.requires.5 c.requires.2 c.requires.3
    (rw c.unwrap.ensures at c.node_line.ensures.value, c.node_line.ensures.out_after)
