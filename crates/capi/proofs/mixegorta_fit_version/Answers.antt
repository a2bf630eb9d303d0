use Rattle.std.proofs.Common.{◌∙◌}
use Rattle.capi.proofs.mixegorta_fit_version.Goals as goal

pub returns : goal.returns
returns c = record { number = c.cause.ensures ∙ c.fit_version.ensures.number; discounted = c.fit_version.ensures.discounted; priced = c.fit_version.ensures.priced }
