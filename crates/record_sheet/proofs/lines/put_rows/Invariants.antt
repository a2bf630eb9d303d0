use Prim.Native.Nat.{ℕ, ◌*◌}
use Rattle.text_laws.specs.Lines.{longest_line}
use Rattle.sheet_laws.specs.TreeSheet.{line_of_row}
use Rattle.node_lines.proofs.LineLoop.{Progress}
use Rattle.record_sheet.proofs.lines.put_rows.Given as goal

abbrev pub invariant-loop-index : goal.invariant-loop-index
invariant-loop-index l =
    Progress (line_of_row l.tree.steps l.tree.reversion l.quotes l.discounts l.state_prices) (λ (i : ℕ). longest_line * i)
    l.initial.out l.end l.tree.steps l.out l.start l.index
