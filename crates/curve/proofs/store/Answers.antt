use Rattle.std.proofs.Common.{◌≡◌, ap, ◌∙◌, length, arith}
use Rattle.arithmetic.proofs.RefusalLaws.{value-or}
use Rattle.arithmetic.specs.declared.Answer.{Answer}
use Rattle.arithmetic.proofs.RowLaws.{filled-start, filled_next}
use Rattle.arithmetic.proofs.PlaceLaws.{filled-place}
use Rattle.curve.proofs.store.Goals as goal

pub loop-i-init : goal.loop-i-init
loop-i-init c = filled-start _ _

pub loop-i-preserved : goal.loop-i-preserved
loop-i-preserved c =
    let e = ap (λ (r : Answer). r.value) c.answer_at.ensures in
    filled_next c.loop-i.invariant (omega arith) (c.unwrap_or.ensures ∙ value-or c.answer_at.result ∙ e)

pub returns : goal.returns
returns c =
    let all : c.loop-i.i ≡ length c.args.kinds.now = omega arith in
    filled-place _ _ _ _ (rw all at c.loop-i.invariant) (omega arith)
