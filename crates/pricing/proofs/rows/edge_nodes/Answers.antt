use borrow.Author.Tests.{lt-ltb, le-ltb}
use Rattle.pricing.proofs.rows.edge_nodes.Goals as goal

pub returns-then-count-next : goal.returns-then-count-next
returns-then-count-next c = rw (lt-ltb _ _ c.if-count-next.true)

pub returns-else-count-next : goal.returns-else-count-next
returns-else-count-next c = rw (le-ltb _ _ c.if-count-next.false)
