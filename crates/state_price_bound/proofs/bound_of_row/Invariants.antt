use Rattle.state_price_bound.specs.inside.Reached.{Reached}
use Rattle.state_price_bound.proofs.bound_of_row.Given as goal

abbrev pub invariant-loop-index : goal.invariant-loop-index
invariant-loop-index l = Reached l.reversion l.discounts l.index l.reached.start l.reached.nodes l.reached.bound
