use Prim.Native.Nat.{ℕ, ◌-◌}
use Rattle.arithmetic.specs.Row.{values}
use Rattle.pricing.proofs.StripRows.{Laying}
use Rattle.pricing.proofs.rows.keep_row.Given as goal

abbrev pub invariant-loop-k : goal.invariant-loop-k
invariant-loop-k l = Laying l.initial.kept l.kept l.start (λ (j : ℕ). values l.bond j - l.flow) l.k
