use Rattle.std.proofs.lemmas.Result.{err_from_is_err_and}
use Rattle.price_bound.proofs.BoundLaws.{alone}
use Rattle.price_bound.proofs.price_error_bound.Goals as goal

pub returns-in_err-known : goal.returns-in_err-known
returns-in_err-known c =
    let p = err_from_is_err_and c.from_residual.result c.from_residual.ensures.1 in
    rw (p.1, p.2) (alone _ _ _ _ c.in_err-known.ensures)

pub returns : goal.returns
returns c = alone _ _ _ _ c.in_ok-known.ensures
