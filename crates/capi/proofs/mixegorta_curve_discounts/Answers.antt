use Rattle.std.proofs.Common.{◌∙◌}
use Rattle.capi.proofs.mixegorta_curve_discounts.Goals as goal

pub returns : goal.returns
returns c = record { number = c.cause.ensures ∙ c.convert.ensures.number; memory = c.convert.ensures.memory }
