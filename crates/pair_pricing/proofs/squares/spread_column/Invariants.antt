use Prim.Native.Nat.{ℕ, ◌+◌}
use Rattle.arithmetic.specs.Row.{values}
use Rattle.pair_laws.specs.inside.Square.{cell, Column, spread_value}
use Rattle.pair_pricing.proofs.squares.spread_column.Given as goal

abbrev pub invariant-loop-a : goal.invariant-loop-a
invariant-loop-a l =
    Column l.column (λ (t : ℕ). spread_value l.branch (values l.rates t) l.spread (cell l.middle t) + l.flow) l.initial.square l.square l.a
