use Rattle.pricing.proofs.StripTurns.{Alone}
use Rattle.pricing.proofs.walk.roll_strike.Given as goal

abbrev pub invariant-loop-row : goal.invariant-loop-row
invariant-loop-row l = Alone l.tree.steps l.tree.reversion l.discounts l.flows l.terms l.marks l.row l.later
