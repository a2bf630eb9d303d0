use mathlib.Core.Path.{sym}
use Prim.Native.Nat.{◌-◌}
use lib.ListN.{length}
use Rattle.std.proofs.lemmas.Result.{err_from_is_err_and}
use Rattle.arithmetic.proofs.RefusalLaws.{refusal-some}
use Rattle.node_lines.proofs.ReadingLaws.{read_known, drawn-refused, drawn-answered}
use Rattle.node_lines.proofs.node_lines.Goals as goal

clauses-answer-memory : {A B : Type 0} → A × B → record { answer : A; memory : B }
clauses-answer-memory w = record { answer = w.0; memory = w.1 }

pub returns-in_err-row_cause : goal.returns-in_err-row_cause
returns-in_err-row_cause c =
    let p = err_from_is_err_and c.from_residual.result c.from_residual.ensures.1 in
    let a = c.args in
    rw (p.1, p.2)
    (clauses-answer-memory (drawn-refused _ a.out.now a.end _ (a.next - a.count) _ c.in_err-row_cause.ensures (refusal-some _)))

pub put_row_nodes-requires : goal.put_row_nodes-requires
put_row_nodes-requires c =
    let a = c.args in
    read_known (length a.out.now) a.end a.row a.discounts.now a.next a.count (sym c.in_ok-row_cause.ensures)

pub returns : goal.returns
returns c =
    let a = c.args in
    let drawn = c.put_row_nodes.ensures in
    clauses-answer-memory (drawn-answered _ a.out.now a.end _ (a.next - a.count) (sym c.in_ok-row_cause.ensures) drawn.answer drawn.memory)
