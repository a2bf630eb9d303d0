use Rattle.std.proofs.Common.{◌≡◌}
use Rattle.price_bound.proofs.BoundLaws.{bound_at}
use Rattle.price_bound.proofs.error_bound.Given as goal

abbrev pub invariant-loop-row : goal.invariant-loop-row
invariant-loop-row l = l.bound ≡ bound_at l.steps l.rows l.row
