use mathlib.Core.Path.{◌≡◌, refl, sym, ◌∙◌, ap}
use mathlib.Core.Bool.{false}
use native.Mathlib.Omega.{arith}
use lib.IntN.{pos}
use lib.Signed.{lt_z}
use mir.Syntax.{w64}
use mir.Val.{to_z, of_z}
use Rattle.std.proofs.lemmas.Result.{err_from_is_err_and}
use Rattle.figure.proofs.FigureLaws.{value-bound, value-back}
use Rattle.quotes.specs.Quotes.{ranged_answer, factor_discount}
use Rattle.quotes.proofs.QuoteLaws.{ranged-none, figure-kept, figure-accepted, factor-negative, factor-whole}
use Rattle.quotes.proofs.of_factor.Goals as goal
use Rattle.quotes.proofs.of_factor.Goals.{Else-value-lt0}

pub returns-in_err-value : goal.returns-in_err-value
returns-in_err-value c =
    let p = err_from_is_err_and c.from_residual.result c.from_residual.ensures.1 in
    rw (p.1, p.2) (figure-kept _ _ _ c.in_err-value.ensures)

pub returns-then-value-lt0 : goal.returns-then-value-lt0
returns-then-value-lt0 c =
    let e = c.in_ok-value.ensures in
    sym
    (figure-accepted c.args.figure factor_discount _ e refl
    ∙ ranged-none _ (factor-negative c.in_ok-value.value (rw (value-back c.args.figure _ e) at c.if-value-lt0.true)))

-- the value, where it is not below 0
back : (c : Else-value-lt0) → to_z w64 (of_z w64 c.in_ok-value.value) ≡ c.in_ok-value.value
back c = value-back c.args.figure _ c.in_ok-value.ensures

whole : (c : Else-value-lt0) → lt_z c.in_ok-value.value (pos 0) ≡ false
whole c = rw (back c) at c.if-value-lt0.false

pub overflow_cast-value : goal.overflow_cast-value
overflow_cast-value c =
    let size = value-bound c.args.figure _ c.in_ok-value.ensures in
    rw (back c) ((factor-whole c.in_ok-value.value (whole c)).0, record { fits = omega (arith, size) })

pub returns : goal.returns
returns c =
    let e = (goal.at.returns c).Else-value-lt0 in
    c.ranged.ensures
    ∙ ap ranged_answer (rw (back e) (sym (factor-whole c.in_ok-value.value (whole e)).1))
    ∙ sym (figure-accepted c.args.figure factor_discount _ c.in_ok-value.ensures refl)
