use Rattle.reversion.proofs.ReversionLaws.{ratio-computed}
use Rattle.reversion.proofs.exact_ratio.Goals as goal

pub returns : goal.returns
returns c = ratio-computed _ _ c.discount.ensures.0
