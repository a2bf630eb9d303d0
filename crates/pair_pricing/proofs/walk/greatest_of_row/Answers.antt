use mathlib.Core.Path.{◌≡◌}
use native.Mathlib.Omega.{arith}
use borrow.Author.Rules.{rules}
use Rattle.lattice.specs.Shape.{node_count}
use Rattle.lattice.proofs.TreeEntries.{row-ok}
use Rattle.pricing.proofs.EntryLaws.{answer-value}
use Rattle.pair_laws.proofs.SquareRows.{row_fits, greatest-row}
use Rattle.pair_pricing.proofs.walk.greatest_of_row.Goals as goal
use Rattle.pair_pricing.proofs.walk.greatest_of_row.Goals.{After-unwrap-width}

pub unwrap-lines-requires : goal.unwrap-lines-requires
unwrap-lines-requires c = row-ok _ _ _ _ c.node_count.ensures c.requires.0 (omega (arith, c.requires.2))

pub unwrap-width-requires : goal.unwrap-width-requires
unwrap-width-requires c = row-ok _ _ _ _ c.node_count-2.ensures c.requires.1 (omega (arith, c.requires.2))

-- the nodes of the row, of either tree
lines : (c : After-unwrap-width) → c.unwrap-lines.result ≡ node_count c.args.trees.rate c.args.row
lines c =
    answer-value c.args.row c.args.trees.rate (omega (arith, c.requires.2)) c.requires.0 _ _ (rw c.unwrap-lines.ensures at c.node_count.ensures)

width : (c : After-unwrap-width) → c.unwrap-width.result ≡ node_count c.args.trees.spread c.args.row
width c =
    answer-value c.args.row c.args.trees.spread (omega (arith, c.requires.2)) c.requires.1 _ _ (rw c.unwrap-width.ensures at c.node_count-2.ensures)

pub greatest_value-requires : goal.greatest_value-requires
greatest_value-requires c = (
  omega (arith, lines (goal.at.greatest_value-requires c).After-unwrap-width, row_fits c.args.trees.rate c.args.row c.requires.2),
  omega (arith, width (goal.at.greatest_value-requires c).After-unwrap-width, row_fits c.args.trees.spread c.args.row c.requires.2),
  search rules,
)

pub returns : goal.returns
returns c =
    greatest-row c.args.trees.rate c.args.trees.spread c.args.row _ _ _ c.args.memory.now (lines (goal.at.returns c).After-unwrap-width)
    (width (goal.at.returns c).After-unwrap-width) c.greatest_value.ensures
