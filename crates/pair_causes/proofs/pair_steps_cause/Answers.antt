use mathlib.Core.Path.{sym, ◌∙◌}
use native.Mathlib.Omega.{arith}
use Rattle.pair_laws.proofs.CauseLaws.{rate-steps-refused, spread-steps-refused, steps-long, steps_apart, steps-passed}
use Rattle.pair_causes.proofs.pair_steps_cause.Goals as goal

pub returns-then-not-is_steps : goal.returns-then-not-is_steps
returns-then-not-is_steps c = rate-steps-refused _ _ (sym c.is_steps.ensures ∙ c.if-not-is_steps.true)

pub returns-then-not-is_steps-2 : goal.returns-then-not-is_steps-2
returns-then-not-is_steps-2 c =
    spread-steps-refused _ _ (sym c.is_steps.ensures ∙ c.if-not-is_steps.false)
    (sym c.is_steps-2.ensures ∙ c.if-not-is_steps-2.true)

pub returns-then-rate_steps-gt-MOST_PAIR_STEPS : goal.returns-then-rate_steps-gt-MOST_PAIR_STEPS
returns-then-rate_steps-gt-MOST_PAIR_STEPS c =
    steps-long _ _ (sym c.is_steps.ensures ∙ c.if-not-is_steps.false)
    (sym c.is_steps-2.ensures ∙ c.if-not-is_steps-2.false) c.if-rate_steps-gt-MOST_PAIR_STEPS.true

pub returns-then-rate_steps-spread_steps : goal.returns-then-rate_steps-spread_steps
returns-then-rate_steps-spread_steps c =
    steps_apart _ _ (sym c.is_steps.ensures ∙ c.if-not-is_steps.false)
    (sym c.is_steps-2.ensures ∙ c.if-not-is_steps-2.false) (omega (arith, c.if-rate_steps-gt-MOST_PAIR_STEPS.false)) c.if-rate_steps-spread_steps.true

pub returns : goal.returns
returns c =
    steps-passed _ _ (sym c.is_steps.ensures ∙ c.if-not-is_steps.false)
    (sym c.is_steps-2.ensures ∙ c.if-not-is_steps-2.false) (omega (arith, c.if-rate_steps-gt-MOST_PAIR_STEPS.false)) c.if-rate_steps-spread_steps.false
