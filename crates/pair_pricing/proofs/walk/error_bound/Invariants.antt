use Rattle.std.proofs.Common.{◌≡◌}
use Rattle.lattice.specs.RateTree.{rate_tree}
use Rattle.lent_tree.specs.LentTree.{stored}
use Rattle.pair_laws.specs.Pair.{pair_error_bound}
use Rattle.pair_pricing.proofs.walk.error_bound.Given as goal

abbrev pub invariant-loop-row : goal.invariant-loop-row
invariant-loop-row l =
    l.bound
    ≡ pair_error_bound (rate_tree l.trees.rate) (rate_tree l.trees.spread) (stored l.trees.rate l.rates) (stored l.trees.spread l.spreads)
    l.trees.steps l.row
