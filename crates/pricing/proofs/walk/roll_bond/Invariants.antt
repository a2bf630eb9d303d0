use Prim.Native.Nat.{◌≤◌}
use Rattle.pricing.proofs.WalkStates.{Bonds}
use Rattle.pricing.proofs.walk.roll_bond.Given as goal

abbrev pub invariant-loop-row : goal.invariant-loop-row
invariant-loop-row l = (l.last ≤ l.row) × Bonds l.tree.steps l.tree.reversion l.discounts l.flows l.row l.later
