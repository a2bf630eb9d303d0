use Rattle.std.proofs.Common.{refl}
use Rattle.std.proofs.lemmas.Result.{err_from_is_err_and}
use Rattle.arithmetic.proofs.RefusalLaws.{refusal-some}
use Rattle.state_price_bound.proofs.BoundLaws as laws
use Rattle.state_price_bound.proofs.state_price_error_bounds.Goals as goal

pub returns-in_err-discounts_cause : goal.returns-in_err-discounts_cause
returns-in_err-discounts_cause c =
    let p = err_from_is_err_and c.from_residual.result c.from_residual.ensures.1 in
    rw (p.1, p.2) (laws.bounds-refused _ _ _ _ c.in_err-discounts_cause.ensures (refusal-some _) _ refl)

pub bounds_of_rows-requires : goal.bounds_of_rows-requires
bounds_of_rows-requires c = laws.all-rows _ _ _ _ c.in_ok-discounts_cause.ensures refl

pub returns : goal.returns
returns c = laws.bounds-given _ _ _ _ c.in_ok-discounts_cause.ensures refl _ c.bounds_of_rows.ensures
