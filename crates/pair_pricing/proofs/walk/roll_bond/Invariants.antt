use Prim.Native.Nat.{◌≤◌}
use Rattle.pair_laws.specs.inside.States.{Bonds}
use Rattle.pair_pricing.proofs.walk.roll_bond.Given as goal

abbrev pub invariant-loop-row : goal.invariant-loop-row
invariant-loop-row l =
    (l.last ≤ l.row) × Bonds l.trees.steps l.trees.rate l.trees.spread l.rates l.spreads l.flows l.row l.bond
