use Rattle.std.proofs.Common.{◌∙◌}
use Rattle.capi.proofs.mixegorta_fit.Goals as goal

pub returns : goal.returns
returns c = record { number = c.cause.ensures ∙ c.fit.ensures.number; discounted = c.fit.ensures.discounted; priced = c.fit.ensures.priced }
