use native.Mathlib.Omega.{arith}
use Rattle.lattice.proofs.TreeEntries.{row-ok}
use Rattle.pricing.proofs.EntryLaws.{answer-value}
use Rattle.pair_pricing.proofs.walk.lines_of.Goals as goal

pub unwrap-requires : goal.unwrap-requires
unwrap-requires c = row-ok _ _ _ _ c.node_count.ensures c.requires.0 (omega (arith, c.requires.1))

pub returns : goal.returns
returns c =
    answer-value c.args.row c.args.trees.rate (omega (arith, c.requires.1)) c.requires.0 _ _
    (rw c.unwrap.ensures at c.node_count.ensures)
