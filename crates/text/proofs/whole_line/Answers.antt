use Rattle.std.proofs.Common.{refl}
use native.Mathlib.Omega.{arith}
use lib.ListN.{length}
use Rattle.std.proofs.lemmas.Result.{err_from_is_err_and}
use Rattle.arithmetic.proofs.RefusalLaws.{refusal-some}
use Rattle.text_laws.specs.WordLines.{whole_line}
use Rattle.text_laws.proofs.WordLineLaws.{word-known, word-refused, word-put}
use Rattle.text.proofs.whole_line.Goals as goal

clauses-value-out_after : {A B : Type 0} → A × B → record { value : A; out_after : B }
clauses-value-out_after w = record { value = w.0; out_after = w.1 }

pub returns-in_err-word_cause : goal.returns-in_err-word_cause
returns-in_err-word_cause c =
    let p = err_from_is_err_and c.from_residual.result c.from_residual.ensures.1 in
    rw (p.1, p.2) (clauses-value-out_after (word-refused c.args.word.now c.args.out.now c.args.end _ _ c.in_err-word_cause.ensures (refusal-some _)))

pub put_label-requires : goal.put_label-requires
put_label-requires c =
    let a = c.args in
    let r = word-known (length a.word.now) (length a.out.now) a.end _ c.in_ok-word_cause.ensures refl in
    (omega arith, r.2)

pub returns : goal.returns
unfolding whole_line
returns c =
    let a = c.args in
    clauses-value-out_after (word-put a.word.now a.out.now a.end _ _ c.in_ok-word_cause.ensures refl c.put_label.ensures)
