use Rattle.valuation.proofs.EntryLaws.{payoffs-missing, payoffs-counted}
use Rattle.valuation.proofs.payoffs_cause.Goals as goal

pub returns-then-count-nodes : goal.returns-then-count-nodes
returns-then-count-nodes c = payoffs-counted _ _ _ _ c.limit_cause.ensures c.if-count-nodes.true

pub returns-else-count-nodes : goal.returns-else-count-nodes
returns-else-count-nodes c = payoffs-missing _ _ _ c.if-count-nodes.false
