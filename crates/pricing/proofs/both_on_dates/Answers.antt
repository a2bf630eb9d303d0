use Rattle.std.proofs.Common.{◌∙◌}
use mathlib.Core.Path.{◌≡◌}
use Rattle.price_laws.specs.Prices.{dated_cause}
use Rattle.price_laws.proofs.OptionLaws.{dated-cause-is, dates-both}
use Rattle.pricing.proofs.EntryLaws.{dated-exercised}
use Rattle.pricing.proofs.both_on_dates.Goals as goal
use Rattle.pricing.proofs.both_on_dates.Goals.{After-lowest_cause-cause}

cause : (c : After-lowest_cause-cause) → let a = c.args in c.lowest_cause-cause.result ≡ dated_cause a.tree.steps a.side a.dates.now a.strike
cause c = dated-cause-is _ _ _ _ (c.cause-about_terms.ensures ∙ c.terms_cause.ensures) c.dates_cause-about_dates.ensures c.lowest_cause-cause.ensures

pub judged_both-requires : goal.judged_both-requires
judged_both-requires c = (c.requires, dated-exercised _ _ (cause (goal.at.judged_both-requires c).After-lowest_cause-cause) _ c.terms_on-terms.ensures)

pub returns : goal.returns
returns c =
    let both = c.judged_both.ensures in
    dates-both _ _ _ _ (cause (goal.at.returns c).After-lowest_cause-cause) _ c.terms_on-terms.ensures _ _ _ _ both.bond both.option
