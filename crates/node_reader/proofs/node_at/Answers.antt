use borrow.Author.Tests.{lt-ltb, le-ltb}
use Rattle.node_reader.proofs.node_at.Goals as goal

pub returns-then-discounts-next : goal.returns-then-discounts-next
returns-then-discounts-next c = simp (le-ltb _ _ c.if-discounts-next.true)

pub returns : goal.returns
returns c = simp (lt-ltb _ _ c.if-discounts-next.false)
