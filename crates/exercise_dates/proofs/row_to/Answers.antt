use borrow.Author.Tests.{lt-leb, le-leb}
use Rattle.exercise_dates.proofs.row_to.Goals as goal

pub returns-then-expiry-row : goal.returns-then-expiry-row
returns-then-expiry-row c = rw (lt-leb _ _ c.if-expiry-row.true)

pub returns : goal.returns
returns c = rw (le-leb _ _ c.if-expiry-row.false)
