use Rattle.reversion.proofs.ReversionLaws.{exact-computed}
use Rattle.reversion.proofs.exact_reversion.Goals as goal

pub returns : goal.returns
returns c = exact-computed _ _ c.discount-lost.ensures.0
