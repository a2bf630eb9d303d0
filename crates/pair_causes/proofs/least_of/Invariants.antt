use Rattle.std.proofs.Common.{◌≡◌}
use Rattle.arithmetic.specs.Row.{values}
use Rattle.pair_laws.specs.PairCauses.{least}
use Rattle.pair_causes.proofs.least_of.Given as goal

abbrev pub invariant-loop-x : goal.invariant-loop-x
invariant-loop-x l = l.best ≡ least l.x-index (values l.xs)
