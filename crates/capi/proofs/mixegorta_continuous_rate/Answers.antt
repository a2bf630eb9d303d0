use Rattle.std.proofs.Common.{◌∙◌}
use Rattle.capi.proofs.mixegorta_continuous_rate.Goals as goal

pub returns : goal.returns
returns c = c.from.ensures ∙ c.of_discount.ensures
