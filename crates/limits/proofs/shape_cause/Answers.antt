use mathlib.Core.Path.{sym, ◌∙◌}
use Rattle.limits.proofs.LimitLaws.{shape-steps, shape-reversion, shape-none}
use Rattle.limits.proofs.shape_cause.Goals as goal

pub returns-then-not-is_steps : goal.returns-then-not-is_steps
returns-then-not-is_steps c = shape-steps _ _ (sym c.is_steps.ensures ∙ c.if-not-is_steps.true)

pub returns-then-not-is_reversion : goal.returns-then-not-is_reversion
returns-then-not-is_reversion c =
    let known = sym c.is_steps.ensures ∙ c.if-not-is_steps.false in
    shape-reversion _ _ known (sym c.is_reversion.ensures ∙ c.if-not-is_reversion.true)

pub returns : goal.returns
returns c =
    let known = sym c.is_steps.ensures ∙ c.if-not-is_steps.false in
    shape-none _ _ known (sym c.is_reversion.ensures ∙ c.if-not-is_reversion.false)
