use Rattle.exercise.specs.Terms.{side}
use Rattle.pricing.specs.inside.Rows.{bond_values, option_values}
use Rattle.pricing.proofs.RowSteps.{Rows-state}
use Rattle.pricing.proofs.rows.option_nodes.Given as goal

abbrev pub invariant-loop-k : goal.invariant-loop-k
invariant-loop-k l =
    Rows-state l.initial.bond l.bond l.initial.option l.option (bond_values l.bonds l.downs l.discounts l.fn.span.next l.flow)
    (option_values (side l.call) l.strike l.listed l.bonds l.options l.downs l.discounts l.fn.span.next) l.top l.k
