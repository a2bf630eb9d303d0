use Prim.Native.Nat.{ℕ, ◌+◌}
use lib.ListN.{length}
use Rattle.arithmetic.specs.Row.{values}
use Rattle.row_branches.specs.RowBranches.{row_branch}
use Rattle.pair_laws.specs.inside.Square.{cell, Cells, spread_value}
use Rattle.pair_pricing.proofs.squares.spread_side.Given as goal

abbrev pub invariant-loop-l : goal.invariant-loop-l
invariant-loop-l l =
    Cells (λ (a t : ℕ). spread_value (row_branch l.downs l.next t) (values l.rates a) (values l.spreads t) (cell l.middle a) + l.flow)
    (length l.rates) l.l l.square
