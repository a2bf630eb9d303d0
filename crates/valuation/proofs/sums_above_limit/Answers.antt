use Rattle.std.proofs.Common.{arith}
use Rattle.valuation.proofs.EntryLaws as laws
use Rattle.valuation.proofs.sums_above_limit.Goals as goal

pub loop-price-init : goal.loop-price-init
loop-price-init c = laws.summed-start _

pub returns-then-total-price : goal.returns-then-total-price
returns-then-total-price c = laws.summed-over _ _ _ c.loop-price.invariant (omega arith) c.if-total-price.true

pub loop-price-preserved : goal.loop-price-preserved
loop-price-preserved c = laws.summed-next _ _ _ c.loop-price.invariant c.if-total-price.false

pub returns : goal.returns
returns c = laws.summed-all _ _ _ c.loop-price.invariant (omega arith)
