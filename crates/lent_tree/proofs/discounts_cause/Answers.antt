use Rattle.std.proofs.Common.{arith, refl, length-take}
use Rattle.std.proofs.lemmas.Result.{err_from_is_err_and}
use Rattle.arithmetic.proofs.RefusalLaws.{refusal-some}
use Rattle.lent_tree.proofs.LentLaws.{numbers-refused, room-refused, discount-refused, lent-passed}
use Rattle.lent_tree.proofs.discounts_cause.Goals as goal

pub returns-in_err-needed : goal.returns-in_err-needed
returns-in_err-needed c =
    let p = err_from_is_err_and c.from_residual.result c.from_residual.ensures.1 in
    rw (p.1, p.2) (numbers-refused _ _ _ _ c.in_err-needed.ensures (refusal-some _))

pub returns-then-discounts-size : goal.returns-then-discounts-size
returns-then-discounts-size c = room-refused _ _ _ _ c.in_ok-needed.ensures refl c.if-discounts-size.true

pub slice_bounds-all_between-end : goal.slice_bounds-all_between-end
slice_bounds-all_between-end c = simp length-take (omega arith)

pub returns-then-not-all_between : goal.returns-then-not-all_between
returns-then-not-all_between c =
    discount-refused _ _ _ _ c.in_ok-needed.ensures refl c.if-discounts-size.false _ c.all_between.ensures c.if-not-all_between.true

pub returns : goal.returns
returns c =
    lent-passed _ _ _ _ c.in_ok-needed.ensures refl c.if-discounts-size.false _ c.all_between.ensures c.if-not-all_between.false
