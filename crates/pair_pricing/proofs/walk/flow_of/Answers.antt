use mathlib.Core.Path.{sym}
use Rattle.pricing.proofs.TreeRows.{flow-none, flow-later}
use Rattle.pair_pricing.proofs.walk.flow_of.Goals as goal

pub returns-then-row-eq0 : goal.returns-then-row-eq0
returns-then-row-eq0 c = sym (flow-none _ _ c.if-row-eq0.true)

pub returns : goal.returns
returns c = sym (flow-later _ _ c.if-row-eq0.false)
