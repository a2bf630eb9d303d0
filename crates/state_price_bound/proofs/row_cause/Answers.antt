use Rattle.state_price_bound.proofs.BoundLaws.{row-past, row-there}
use Rattle.state_price_bound.proofs.row_cause.Goals as goal

pub returns-then-steps-row : goal.returns-then-steps-row
returns-then-steps-row c = row-past _ _ c.if-steps-row.true

pub returns-else-steps-row : goal.returns-else-steps-row
returns-else-steps-row c = row-there _ _ c.if-steps-row.false
