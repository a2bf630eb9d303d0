use Rattle.std.proofs.Common.{arith}
use Rattle.state_price_bound.proofs.BoundLaws as laws
use Rattle.state_price_bound.proofs.bound_of_row.Goals as goal

pub loop-index-init : goal.loop-index-init
loop-index-init c = laws.reached-start c.first_row-reached.ensures

pub next_row-reached-requires : goal.next_row-reached-requires
next_row-reached-requires c = (laws.before_last _ _ _ _ c.requires (omega arith), c.loop-index.invariant)

pub returns : goal.returns
returns c = laws.reached-last c.loop-index.invariant _ (omega arith)
