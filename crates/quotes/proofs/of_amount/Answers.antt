use mathlib.Core.Path.{◌∙◌, ap}
use lib.IntN.{ℤ}
use mir.Facts.{to_z-of_z}
use Rattle.std.proofs.lemmas.Result.{err_from_is_err_and}
use Rattle.arithmetic.specs.declared.Answer.{Answer}
use Rattle.continuous.specs.Continuous.{continuous_answer}
use Rattle.quotes.specs.Quotes.{ranged_answer}
use Rattle.quotes.proofs.YieldLaws.{amount-kept}
use Rattle.quotes.proofs.of_amount.Goals as goal

pub returns-in_err-discount : goal.returns-in_err-discount
returns-in_err-discount c =
    let p = err_from_is_err_and c.from_residual.result c.from_residual.ensures.1 in
    rw (p.1, p.2) (amount-kept c.args.amount _ (rw (to_z-of_z c.ranges.amount) at c.in_err-discount.ensures))

pub returns : goal.returns
returns c =
    c.ranged.ensures
    ∙ ap (λ (a : Answer). ranged_answer a.value) c.in_ok-discount.ensures
    ∙ ap (λ (z : ℤ). ranged_answer (continuous_answer z).value) (to_z-of_z c.ranges.amount)
