use mathlib.Core.Path.{sym, ◌∙◌}
use Rattle.price_laws.proofs.StripLaws.{strip-few, strip-refused, strip-given, tree-refuses}
use Rattle.pricing.proofs.judged_strip.Goals as goal

pub returns-then-cause-ne0 : goal.returns-then-cause-ne0
returns-then-cause-ne0 c = c.refused_strip.ensures ∙ strip-refused _ _ _ _ c.strip_cause-cause.ensures c.if-cause-ne0.true

pub refused_prices-requires : goal.refused_prices-requires
refused_prices-requires c = strip-few _ _ _ (sym c.strip_cause-cause.ensures ∙ c.if-cause-ne0.false)

pub returns-then-bound-ne0 : goal.returns-then-bound-ne0
returns-then-bound-ne0 c =
    let a = c.args in
    strip-given _ _ _ _ (sym c.strip_cause-cause.ensures ∙ c.if-cause-ne0.false)
    (c.refused_prices.ensures
    ∙ tree-refuses _ _ _ _ a.strikes.now a.bound.value a.side a.dates.now _ c.requires c.if-bound-ne0.true)

pub accepted_strip-requires : goal.accepted_strip-requires
accepted_strip-requires c = (
  sym c.requires ∙ c.if-bound-ne0.false,
  strip-few _ _ _ (sym c.strip_cause-cause.ensures ∙ c.if-cause-ne0.false),
)

pub returns : goal.returns
returns c =
    strip-given _ _ _ _ (sym c.strip_cause-cause.ensures ∙ c.if-cause-ne0.false) c.accepted_strip.ensures
