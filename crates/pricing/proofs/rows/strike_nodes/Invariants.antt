use Rattle.exercise.specs.Terms.{side}
use Rattle.pricing.specs.inside.Strips.{strike_values}
use Rattle.pricing.proofs.RowSteps.{Row-state}
use Rattle.pricing.proofs.rows.strike_nodes.Given as goal

abbrev pub invariant-loop-k : goal.invariant-loop-k
invariant-loop-k l =
    Row-state l.initial.option l.option (strike_values (side l.call) l.strike l.listed l.bare l.options l.downs l.discounts l.fn.span.next) l.top l.k
