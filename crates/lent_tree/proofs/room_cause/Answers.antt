use Rattle.std.proofs.Common.{refl}
use Rattle.std.proofs.lemmas.Result.{err_from_is_err_and}
use Rattle.arithmetic.proofs.RefusalLaws.{refusal-some}
use Rattle.lent_tree.proofs.LentLaws.{room-number, room-short, room-enough}
use Rattle.lent_tree.proofs.room_cause.Goals as goal

pub returns-in_err-needed : goal.returns-in_err-needed
returns-in_err-needed c =
    let p = err_from_is_err_and c.from_residual.result c.from_residual.ensures.1 in
    rw (p.1, p.2) (room-number _ _ _ _ c.in_err-needed.ensures (refusal-some _))

pub returns-then-discounts-needed : goal.returns-then-discounts-needed
returns-then-discounts-needed c = room-short _ _ _ _ c.in_ok-needed.ensures refl c.if-discounts-needed.true

pub returns : goal.returns
returns c = room-enough _ _ _ _ c.in_ok-needed.ensures refl c.if-discounts-needed.false
