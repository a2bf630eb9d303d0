use Rattle.std.proofs.Common.{◌≡◌, true, replicate}
use Rattle.arithmetic.specs.Row.{each}
use Rattle.arithmetic.proofs.RowLaws.{Filled}
use Rattle.limits.specs.Limits.{most_steps}
use Rattle.lattice.specs.RateTree.{rate_tree}
use Rattle.lent_tree.specs.LentTree.{stored}
use Rattle.pricing_laws.specs.TreePricer.{greatest_discount}
use Rattle.price_bound.specs.inside.Rows.{row_accepted}
use Rattle.price_bound.proofs.tree_range.Given as goal

abbrev pub invariant-loop-row : goal.invariant-loop-row
invariant-loop-row l =
    (each l.row (row_accepted l.reversion l.discounts) ≡ true)
    × Filled (replicate most_steps 0) l.rows (greatest_discount (rate_tree l.reversion) (stored l.reversion l.discounts)) l.row
