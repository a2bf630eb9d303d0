use Rattle.std.proofs.Common.{◌∙◌}
use Rattle.arithmetic.proofs.Implied.{implied}
use Rattle.pair_laws.proofs.EntryLaws.{entry-accepted, dated-refused, terms-refused, exercisable, dated-found}
use Rattle.pair_pricing.proofs.pair_dated_option_price.Goals as goal

pub returns-then-cause-ne0 : goal.returns-then-cause-ne0
returns-then-cause-ne0 c = dated-refused implied (c.cause-cause.ensures ∙ c.pair_cause.ensures) _ _ _ c.refused.ensures c.if-cause-ne0.true

pub returns-then-other-ne0 : goal.returns-then-other-ne0
returns-then-other-ne0 c =
    terms-refused implied (c.cause-cause.ensures ∙ c.pair_cause.ensures) _ _ _ c.if-cause-ne0.false (c.cause-about_terms.ensures ∙ c.terms_cause.ensures) c.dates_cause.ensures
    c.lowest_cause-other.ensures c.refused-then-other-ne0.ensures c.if-other-ne0.true

pub accepted_option-requires : goal.accepted_option-requires
accepted_option-requires c = (
  entry-accepted _ (c.cause-cause.ensures ∙ c.pair_cause.ensures) c.if-cause-ne0.false,
  exercisable implied (c.cause-cause.ensures ∙ c.pair_cause.ensures) _ _ _ c.if-cause-ne0.false (c.cause-about_terms.ensures ∙ c.terms_cause.ensures) c.dates_cause.ensures
      c.lowest_cause-other.ensures c.if-other-ne0.false c.terms_on-terms.ensures c.marks_of-marks.ensures,
)

pub returns : goal.returns
returns c =
    dated-found implied (c.cause-cause.ensures ∙ c.pair_cause.ensures) _ _ _ c.if-cause-ne0.false (c.cause-about_terms.ensures ∙ c.terms_cause.ensures) c.dates_cause.ensures
    c.lowest_cause-other.ensures c.if-other-ne0.false c.terms_on-terms.ensures c.marks_of-marks.ensures c.accepted_option.ensures
