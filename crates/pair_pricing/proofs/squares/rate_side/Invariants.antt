use Rattle.pair_laws.specs.inside.Square.{Cells, rate_average}
use Rattle.pair_pricing.proofs.squares.rate_side.Given as goal

abbrev pub invariant-loop-j : goal.invariant-loop-j
invariant-loop-j l = Cells (rate_average l.downs l.next l.later) l.j l.width l.middle
