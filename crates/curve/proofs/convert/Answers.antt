use Rattle.std.proofs.Common.{refl}
use Rattle.std.proofs.lemmas.Result.{err_from_is_err_and}
use Rattle.arithmetic.proofs.Implied.{implied}
use Rattle.arithmetic.proofs.RefusalLaws.{refusal-some}
use Rattle.curve.proofs.CurveLaws.{entry-refused, entry-room, entry-stored}
use Rattle.curve.proofs.convert.Goals as goal

clauses-number-memory : {A B : Type 0} → A × B → record { number : A; memory : B }
clauses-number-memory w = record { number = w.0; memory = w.1 }

pub returns-in_err-cause : goal.returns-in_err-cause
returns-in_err-cause c =
    let p = err_from_is_err_and c.from_residual.result c.from_residual.ensures.1 in
    rw (p.1, p.2) (clauses-number-memory (entry-refused implied c.in_err-cause.ensures (refusal-some _)))

pub store-requires : goal.store-requires
store-requires c = entry-room {memory = c.args.discounts.now} implied c.in_ok-cause.ensures refl

pub returns : goal.returns
returns c = clauses-number-memory (entry-stored implied c.in_ok-cause.ensures refl c.store.ensures)
