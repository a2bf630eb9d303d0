use mathlib.Core.Path.{◌≡◌}
use Prim.Native.Nat.{ℕ, ◌*◌}
use Rattle.text_laws.specs.Lines.{longest_line}
use Rattle.lattice.specs.Shape.{row_start}
use Rattle.sheet_laws.specs.TreeSheet.{nodes_of_row}
use Rattle.node_lines.proofs.LineLoop.{Progress}
use Rattle.record_sheet.proofs.lines.put_node_rows.Given as goal

abbrev pub invariant-loop-row : goal.invariant-loop-row
invariant-loop-row l =
    Progress (nodes_of_row l.reversion l.discounts) (λ (i : ℕ). longest_line * row_start l.reversion i) l.initial.out l.end l.steps l.out l.start l.row
    × (l.place ≡ row_start l.reversion l.row)
