use Prim.Native.Nat.{◌+◌}
use Rattle.arithmetic.specs.Row.{values}
use Rattle.arithmetic.proofs.RowLaws.{Filled}
use Rattle.book_reports.proofs.sums.counts_of.Given as goal

abbrev pub invariant-loop-k : goal.invariant-loop-k
invariant-loop-k l =
    Filled l.initial.sums l.sums (λ j. values l.first j + values l.second j) l.k
