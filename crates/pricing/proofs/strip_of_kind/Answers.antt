use mathlib.Core.Path.{sym, ◌∙◌}
use Rattle.exercise_dates.proofs.DateLaws.{list-room}
use Rattle.price_laws.proofs.StripLaws.{kind-refuses, list-handed}
use Rattle.pricing.proofs.EntryLaws.{prefix-length}
use Rattle.pricing.proofs.strip_of_kind.Goals as goal

pub returns-then-cause-ne0 : goal.returns-then-cause-ne0
returns-then-cause-ne0 c =
    let a = c.args in
    c.refused_kind.ensures
    ∙ kind-refuses _ _ _ _ a.strikes.now a.bound.value a.kind a.expiry _ _ c.requires
    (c.cause-cause.ensures ∙ c.option_cause.ensures) c.if-cause-ne0.true

pub slice_bounds-rows-end : goal.slice_bounds-rows-end
slice_bounds-rows-end c = list-room _ _ _ c.dates_of_kind-dates.ensures

pub slice_bounds-judged_strip-end : goal.slice_bounds-judged_strip-end
slice_bounds-judged_strip-end c = prefix-length _ _ (list-room _ _ _ c.dates_of_kind-dates.ensures)

pub returns : goal.returns
returns c =
    let a = c.args in
    c.judged_strip.ensures
    ∙ list-handed _ _ _ _ a.strikes.now a.bound.value a.kind a.expiry
    (sym (c.cause-cause.ensures ∙ c.option_cause.ensures) ∙ c.if-cause-ne0.false)
    _ c.side_of_kind.ensures _ c.dates_of_kind-dates.ensures
