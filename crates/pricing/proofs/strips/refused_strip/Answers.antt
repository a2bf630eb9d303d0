use Rattle.price_laws.proofs.StripLaws.{refused-is}
use Rattle.pricing.proofs.strips.refused_strip.Goals as goal

pub returns : goal.returns
returns c = refused-is _ _ c.no_answers-zeros.ensures
