use Rattle.arithmetic.proofs.RowLaws.{Filled}
use Rattle.lattice.specs.Branching.{down_probability}
use Rattle.lattice.specs.RateTree.{node_of_index}
use Rattle.branches.proofs.fill_table.Given as goal

abbrev pub invariant-loop-index : goal.invariant-loop-index
invariant-loop-index l =
    Filled l.initial.table l.table (λ k. down_probability l.reversion (node_of_index l.half_width k)) l.index
