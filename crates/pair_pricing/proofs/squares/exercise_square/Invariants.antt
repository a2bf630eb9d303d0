use Prim.Native.Nat.{ℕ}
use Rattle.arithmetic.specs.Row.{values}
use Rattle.pair_laws.specs.inside.Square.{exercised}
use Rattle.pair_laws.proofs.Squares.{Changed}
use Rattle.pair_pricing.proofs.squares.exercise_square.Given as goal

abbrev pub invariant-loop-k : goal.invariant-loop-k
invariant-loop-k l =
    Changed (λ (t x : ℕ). exercised l.listed l.call l.strike l.flow x (values l.bonds t)) l.initial.square l.square l.k
