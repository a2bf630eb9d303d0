use Rattle.std.proofs.Common.{◌+◌, replicate}
use Rattle.arithmetic.proofs.RowLaws.{Filled}
use Rattle.limits.specs.Limits.{most_steps}
use Rattle.lattice.specs.RateTree.{rate_tree}
use Rattle.lent_tree.specs.LentTree.{stored}
use Rattle.fit_laws.specs.StatePrices.{state_price_error_bound}
use Rattle.state_price_bound.specs.inside.Reached.{Reached}
use Rattle.state_price_bound.proofs.bounds_of_rows.Given as goal

abbrev pub invariant-loop-index : goal.invariant-loop-index
invariant-loop-index l =
    Reached l.reversion l.discounts l.index l.reached.start l.reached.nodes l.reached.bound
    × Filled (replicate (most_steps + 1) 0) l.bounds (state_price_error_bound (rate_tree l.reversion) (stored l.reversion l.discounts)) (l.index + 1)
