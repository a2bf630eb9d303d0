use Rattle.pricing.proofs.WalkTurns.{Both}
use Rattle.pricing.proofs.walk.roll_option.Given as goal

abbrev pub invariant-loop-row : goal.invariant-loop-row
invariant-loop-row l = Both l.tree.steps l.tree.reversion l.discounts l.flows l.terms l.marks l.row l.bonds l.options
