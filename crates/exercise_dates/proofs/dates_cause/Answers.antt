use mathlib.Core.Path.{sym, ◌∙◌}
use native.Mathlib.Omega.{arith}
use Rattle.pricing_laws.proofs.Dates.{cause-empty, cause-order, cause-end, cause-none}
use Rattle.exercise_dates.proofs.dates_cause.Goals as goal

pub returns-then-dates-eq0 : goal.returns-then-dates-eq0
returns-then-dates-eq0 c = cause-empty _ _ c.if-dates-eq0.true

pub returns-then-not-is_rising : goal.returns-then-not-is_rising
returns-then-not-is_rising c =
    cause-order _ _ c.if-dates-eq0.false (sym c.is_rising.ensures ∙ c.if-not-is_rising.true)

pub returns-then-steps-last_date : goal.returns-then-steps-last_date
returns-then-steps-last_date c =
    cause-end _ _ c.if-dates-eq0.false (sym c.is_rising.ensures ∙ c.if-not-is_rising.false)
    (omega (arith, c.last_date.ensures, c.if-steps-last_date.true))

pub returns : goal.returns
returns c =
    cause-none _ _ c.if-dates-eq0.false (sym c.is_rising.ensures ∙ c.if-not-is_rising.false)
    (omega (arith, c.last_date.ensures, c.if-steps-last_date.false))
