use Rattle.std.proofs.Common.{◌≡◌, ℕ}
use Rattle.arithmetic.specs.Sum.{greatest}
use Rattle.pair_laws.specs.inside.Square.{cell}
use Rattle.pair_pricing.proofs.squares.greatest_value.Given as goal

abbrev pub invariant-loop-a : goal.invariant-loop-a
invariant-loop-a l = l.best ≡ greatest l.a (λ (t : ℕ). greatest l.width (λ (place : ℕ). cell l.square t place))
