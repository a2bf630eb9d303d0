use Rattle.pricing.specs.inside.Rows.{bond_values}
use Rattle.pricing.proofs.RowSteps.{Row-state}
use Rattle.pricing.proofs.rows.bond_nodes.Given as goal

abbrev pub invariant-loop-k : goal.invariant-loop-k
invariant-loop-k l = Row-state l.initial.row l.row (bond_values l.later l.downs l.discounts l.fn.span.next l.flow) l.top l.k
