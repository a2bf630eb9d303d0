use mathlib.Core.Path.{◌∙◌}
use Rattle.price_laws.proofs.StripLaws.{kind-whole}
use Rattle.pricing.proofs.option_strip_of_kind.Goals as goal

pub returns : goal.returns
returns c =
    let a = c.args in
    c.strip_of_kind.ensures ∙ kind-whole _ _ _ _ a.strikes.now _ a.kind a.expiry c.tree_bound-bound.ensures.bound-is
