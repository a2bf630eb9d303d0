use mathlib.Core.Path.{◌∙◌}
use Rattle.price_laws.proofs.StripLaws.{strip-whole}
use Rattle.pricing.proofs.option_strip.Goals as goal

pub returns : goal.returns
returns c =
    let a = c.args in
    c.judged_strip.ensures ∙ strip-whole _ _ _ _ a.strikes.now _ a.side a.dates.now c.tree_bound-bound.ensures.bound-is
