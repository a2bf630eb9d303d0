use Rattle.std.proofs.Common.{◌/◌}
use Rattle.tree.specs.Tree.{probability_total}
use Rattle.arithmetic.specs.Row.{values}
use Rattle.arithmetic.proofs.RowLaws.{Filled}
use Rattle.fitting.proofs.step.divide.Given as goal

abbrev pub invariant-loop-k : goal.invariant-loop-k
invariant-loop-k l = Filled l.initial.next l.next (λ j. values l.sums j / probability_total) l.k
