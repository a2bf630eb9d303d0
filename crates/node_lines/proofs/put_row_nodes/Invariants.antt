use Rattle.std.proofs.Common.{ℕ, ◌*◌}
use Rattle.text_laws.specs.Lines.{longest_line}
use Rattle.node_lines.specs.Rows.{node_text}
use Rattle.node_lines.specs.Reading.{nodes_before}
use Rattle.node_lines.proofs.LineLoop.{Progress}
use Rattle.node_lines.proofs.put_row_nodes.Given as goal

abbrev pub invariant-loop-index : goal.invariant-loop-index
invariant-loop-index l =
    Progress (node_text l.row (nodes_before l.discounts l.next l.count)) (λ (i : ℕ). longest_line * i)
    l.initial.out l.end l.count l.out l.start l.index
