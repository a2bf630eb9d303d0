use Rattle.std.proofs.Common.{sym, arith}
use Rattle.arithmetic.proofs.RefusalLaws.{err-number, ok-number}
use Rattle.arithmetic.proofs.RowLaws.{each_none, each_more, each-fails}
use Rattle.curve.proofs.CurveLaws.{converts, refuses}
use Rattle.curve.proofs.all_convert.Goals as goal

pub loop-i-init : goal.loop-i-init
loop-i-init c = each_none _

pub returns-then-is_err : goal.returns-then-is_err
returns-then-is_err c =
    let n = err-number c.answer_at.result c.if-is_err.ensures.value in
    sym (each-fails _ c.loop-i.i _ (omega arith) (refuses _ _ _ _ _ c.answer_at.ensures n))

pub loop-i-preserved : goal.loop-i-preserved
loop-i-preserved c =
    let n = ok-number c.answer_at.result c.if-is_err.ensures.value in
    each_more _ _ c.loop-i.invariant (converts _ _ _ _ _ c.answer_at.ensures n)
