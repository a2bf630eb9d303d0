use Prim.Native.Nat.{ℕ, ◌+◌}
use Rattle.arithmetic.proofs.RowLaws.{Filled}
use Rattle.job_fit.proofs.columns.rows_of.Given as goal

abbrev pub invariant-loop-index : goal.invariant-loop-index
invariant-loop-index l = Filled l.initial.row-items l.row-items (λ (k : ℕ). k + 1) l.index
