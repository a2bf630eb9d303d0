use Rattle.pricing.specs.inside.Strips.{KeptFrom}
use Rattle.pricing.proofs.WalkStates.{Bonds}
use Rattle.pricing.proofs.walk.keep_bond.Given as goal

abbrev pub invariant-loop-row : goal.invariant-loop-row
invariant-loop-row l =
    Bonds l.tree.steps l.tree.reversion l.discounts l.flows l.row l.later
    × KeptFrom l.tree.steps l.tree.reversion l.discounts l.flows l.row l.kept
