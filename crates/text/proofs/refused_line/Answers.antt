use mathlib.Core.Path.{sym}
use native.Mathlib.Omega.{arith}
use lib.ListN.{length}
use Rattle.std.proofs.lemmas.Result.{err_from_is_err_and}
use Rattle.arithmetic.proofs.RefusalLaws.{refusal-some}
use Rattle.text_laws.specs.Lines.{refused_line}
use Rattle.text_laws.proofs.LineLaws.{room-known, line_refused, line-put}
use Rattle.text.proofs.refused_line.Goals as goal

clauses-value-out_after : {A B : Type 0} → A × B → record { value : A; out_after : B }
clauses-value-out_after w = record { value = w.0; out_after = w.1 }

pub returns-in_err-line_cause : goal.returns-in_err-line_cause
returns-in_err-line_cause c =
    let p = err_from_is_err_and c.from_residual.result c.from_residual.ensures.1 in
    rw (p.1, p.2) (clauses-value-out_after (line_refused c.args.out.now c.args.end _ _ c.in_err-line_cause.ensures (refusal-some _)))

pub put_label-requires : goal.put_label-requires
put_label-requires c =
    let r = room-known (length c.args.out.now) c.args.end (sym c.in_ok-line_cause.ensures) in
    (omega arith, r.1)

pub returns : goal.returns
unfolding refused_line
returns c =
    let r = room-known (length c.args.out.now) c.args.end (sym c.in_ok-line_cause.ensures) in
    clauses-value-out_after (line-put c.args.out.now c.args.end _ r.0 c.put_label.ensures)
