use Prim.Native.Nat.{ℕ, ◌-◌}
use Rattle.arithmetic.specs.Row.{values}
use Rattle.arithmetic.proofs.RowLaws.{Filled}
use Rattle.pricing_laws.specs.Pricer.{exercise}
use Rattle.exercise.specs.Terms.{side}
use Rattle.pricing.proofs.rows.exercise_row.Given as goal

abbrev pub invariant-loop-k : goal.invariant-loop-k
invariant-loop-k l = Filled l.initial.option l.option (λ (j : ℕ). exercise (side l.call) l.strike (values l.bond j - l.flow)) l.k
