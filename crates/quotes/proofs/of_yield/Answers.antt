use mathlib.Core.Path.{refl, sym, ◌∙◌, ap}
use lib.IntN.{ℤ}
use Rattle.std.proofs.lemmas.Result.{err_from_is_err_and}
use Rattle.figure.proofs.FigureLaws.{value-bound, value-back}
use Rattle.quotes.specs.Quotes.{ranged_answer, yield_discount}
use Rattle.quotes.proofs.QuoteLaws.{figure-kept, figure-accepted}
use Rattle.quotes.proofs.of_yield.Goals as goal

pub returns-in_err-rate : goal.returns-in_err-rate
returns-in_err-rate c =
    let p = err_from_is_err_and c.from_residual.result c.from_residual.ensures.1 in
    rw (p.1, p.2) (figure-kept _ _ _ c.in_err-rate.ensures)

pub of_yearly-requires : goal.of_yearly-requires
of_yearly-requires c =
    let e = c.in_ok-rate.ensures in
    rw (value-back c.args.figure _ e) (c.requires.0, c.requires.1, c.requires.2, value-bound c.args.figure _ e)

pub returns : goal.returns
returns c =
    let a = c.args in
    let e = c.in_ok-rate.ensures in
    c.of_yearly.ensures
    ∙ ap (λ (z : ℤ). ranged_answer (yield_discount a.frequency a.row z)) (value-back a.figure _ e)
    ∙ sym (figure-accepted a.figure (yield_discount a.frequency a.row) _ e refl)
