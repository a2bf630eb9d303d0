use Rattle.std.proofs.Common.{◌∙◌}
use Rattle.exercise_dates.proofs.DateLaws.{list-room}
use Rattle.price_laws.proofs.OptionLaws.{kind-both}
use Rattle.pricing.proofs.EntryLaws.{prefix-length, kind-exercised}
use Rattle.pricing.proofs.both_of_kind.Goals as goal

pub slice_bounds-rows-end : goal.slice_bounds-rows-end
slice_bounds-rows-end c = list-room _ _ _ c.dates_of_kind-dates.ensures

pub slice_bounds-judged_both-end : goal.slice_bounds-judged_both-end
slice_bounds-judged_both-end c = prefix-length _ _ (list-room _ _ _ c.dates_of_kind-dates.ensures)

pub judged_both-requires : goal.judged_both-requires
judged_both-requires c = (
  c.requires,
  kind-exercised _ _ _ _ (c.cause-cause.ensures ∙ c.option_cause.ensures) _ c.terms_of-terms.ensures _ c.dates_of_kind-dates.ensures,
)

pub returns : goal.returns
returns c =
    let both = c.judged_both.ensures in
    kind-both _ _ _ _ (c.cause-cause.ensures ∙ c.option_cause.ensures) _ c.terms_of-terms.ensures _ c.dates_of_kind-dates.ensures _ _ _ _ both.bond both.option
