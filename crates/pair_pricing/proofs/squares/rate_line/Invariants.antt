use Rattle.pair_laws.specs.inside.Square.{cell, Line, branch_average}
use Rattle.pair_pricing.proofs.squares.rate_line.Given as goal

abbrev pub invariant-loop-l : goal.invariant-loop-l
invariant-loop-l l = Line l.line (λ t. branch_average l.branch (λ a. cell l.later a t)) l.initial.middle l.middle l.l
