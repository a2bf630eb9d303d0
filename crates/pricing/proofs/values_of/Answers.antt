use Rattle.price_laws.proofs.AnswerLaws.{values-are}
use Rattle.pricing.proofs.values_of.Goals as goal

pub returns : goal.returns
returns c = values-are _ _ _ c.value_of.ensures c.value_of-2.ensures
