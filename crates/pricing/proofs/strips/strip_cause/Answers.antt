use mathlib.Core.Path.{sym, ◌∙◌}
use Rattle.price_laws.proofs.StripLaws.{strip-shape, strip-none, strip-many, strip-taken}
use Rattle.pricing.proofs.strips.strip_cause.Goals as goal

pub returns-then-shape-ne0 : goal.returns-then-shape-ne0
returns-then-shape-ne0 c = strip-shape _ _ _ _ (c.cause-shape.ensures ∙ c.shape_cause.ensures) c.if-shape-ne0.true

pub returns-then-count-lt1 : goal.returns-then-count-lt1
returns-then-count-lt1 c = strip-none _ _ _ (sym (c.cause-shape.ensures ∙ c.shape_cause.ensures) ∙ c.if-shape-ne0.false) c.if-count-lt1.true

pub returns-then-count-gt-MOST_STRIKES : goal.returns-then-count-gt-MOST_STRIKES
returns-then-count-gt-MOST_STRIKES c =
    strip-many _ _ _ (sym (c.cause-shape.ensures ∙ c.shape_cause.ensures) ∙ c.if-shape-ne0.false) c.if-count-lt1.false c.if-count-gt-MOST_STRIKES.true

pub returns : goal.returns
returns c = strip-taken _ _ _ (sym (c.cause-shape.ensures ∙ c.shape_cause.ensures) ∙ c.if-shape-ne0.false) c.if-count-lt1.false c.if-count-gt-MOST_STRIKES.false
