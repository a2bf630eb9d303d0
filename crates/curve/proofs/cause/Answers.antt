use mathlib.Core.Path.{sym, ◌∙◌}
use Rattle.arithmetic.proofs.Implied.{implied}
use Rattle.curve.proofs.CurveLaws.{placed-kinds, placed-figures, number-frequency, number-steps, number-place, number-quotes, number-accepted}
use Rattle.curve.proofs.cause.Goals as goal

pub returns-then-not-is_frequency : goal.returns-then-not-is_frequency
returns-then-not-is_frequency c = sym (number-frequency implied (sym c.is_frequency.ensures ∙ c.if-not-is_frequency.true))

pub returns-then-not-is_steps : goal.returns-then-not-is_steps
returns-then-not-is_steps c =
    sym (number-steps implied (sym c.is_frequency.ensures ∙ c.if-not-is_frequency.false) (sym c.is_steps.ensures ∙ c.if-not-is_steps.true))

pub returns-then-not-is_in_place : goal.returns-then-not-is_in_place
returns-then-not-is_in_place c =
    sym (number-place implied (sym c.is_frequency.ensures ∙ c.if-not-is_frequency.false) (sym c.is_steps.ensures ∙ c.if-not-is_steps.false)
    (sym c.is_in_place.ensures ∙ c.if-not-is_in_place.true))

pub all_convert-requires : goal.all_convert-requires
all_convert-requires c =
    let placed = sym c.is_in_place.ensures ∙ c.if-not-is_in_place.false in
    placed-figures _ _ _ _ placed ∙ sym (placed-kinds _ _ _ _ placed)

pub returns-then-not-all_convert : goal.returns-then-not-all_convert
returns-then-not-all_convert c =
    sym (number-quotes implied (sym c.is_frequency.ensures ∙ c.if-not-is_frequency.false) (sym c.is_steps.ensures ∙ c.if-not-is_steps.false)
    (sym c.is_in_place.ensures ∙ c.if-not-is_in_place.false) (sym c.all_convert.ensures ∙ c.if-not-all_convert.true))

pub returns : goal.returns
returns c =
    sym (number-accepted implied (sym c.is_frequency.ensures ∙ c.if-not-is_frequency.false) (sym c.is_steps.ensures ∙ c.if-not-is_steps.false)
    (sym c.is_in_place.ensures ∙ c.if-not-is_in_place.false) (sym c.all_convert.ensures ∙ c.if-not-all_convert.false))
