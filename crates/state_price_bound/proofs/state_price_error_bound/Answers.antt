use Rattle.std.proofs.Common.{refl}
use Rattle.std.proofs.lemmas.Result.{err_from_is_err_and}
use Rattle.arithmetic.proofs.RefusalLaws.{refusal-some}
use Rattle.state_price_bound.proofs.BoundLaws as laws
use Rattle.state_price_bound.proofs.state_price_error_bound.Goals as goal

pub returns-in_err-lowest_refusal : goal.returns-in_err-lowest_refusal
returns-in_err-lowest_refusal c =
    let p = err_from_is_err_and c.from_residual.result c.from_residual.ensures.1 in
    let e = laws.refusal_is _ _ _ _ c.discounts_cause.ensures c.row_cause.ensures c.in_err-lowest_refusal.ensures in
    rw (p.1, p.2) (laws.bound-refused _ _ _ _ e (refusal-some _))

pub bound_of_row-requires : goal.bound_of_row-requires
bound_of_row-requires c =
    laws.row-needs _ _ _ _ (laws.refusal_is _ _ _ _ c.discounts_cause.ensures c.row_cause.ensures c.in_ok-lowest_refusal.ensures) refl

pub returns : goal.returns
returns c =
    laws.bound-answered _ _ _ _ (laws.refusal_is _ _ _ _ c.discounts_cause.ensures c.row_cause.ensures c.in_ok-lowest_refusal.ensures)
    refl _ c.bound_of_row.ensures
