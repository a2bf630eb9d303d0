use mathlib.Core.Path.{sym}
use native.Mathlib.Omega.{arith}
use Rattle.node_lines.proofs.RowLaws.{row-late, row-even, row-test}
use Rattle.node_lines.proofs.is_row.Goals as goal

pub returns-then-row-gt-LAST_ROW : goal.returns-then-row-gt-LAST_ROW
returns-then-row-gt-LAST_ROW c =
    sym (row-late c.args.row c.args.count (omega arith))

pub returns-then-count-ne1 : goal.returns-then-count-ne1
returns-then-count-ne1 c =
    let if2 = c.if-count-ne1 in
    sym (row-even c.args.row c.args.count (omega arith) if2.true)

pub returns : goal.returns
returns c =
    let if2 = c.if-count-ne1 in
    sym (row-test c.args.row c.args.count (omega arith) if2.false)
