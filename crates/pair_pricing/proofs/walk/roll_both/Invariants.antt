use Rattle.exercise.specs.Terms.{side}
use Rattle.pricing_laws.specs.inside.Marks.{marked}
use Rattle.pair_laws.specs.inside.States.{Bonds, Options}
use Rattle.pair_pricing.proofs.walk.roll_both.Given as goal

abbrev pub invariant-loop-row : goal.invariant-loop-row
invariant-loop-row l =
    Bonds l.trees.steps l.trees.rate l.trees.spread l.rates l.spreads l.flows l.row l.bond
    × Options l.trees.steps l.trees.rate l.trees.spread l.rates l.spreads l.flows (side l.terms.call) l.terms.strike
    (marked l.terms.last l.marks) l.row l.option
