use Rattle.std.proofs.Common.{◌≡◌}
use Rattle.arithmetic.specs.Row.{values}
use Rattle.arithmetic.specs.Sum.{greatest}
use Rattle.arithmetic.proofs.next_above.Given as goal

abbrev pub invariant-loop-k : goal.invariant-loop-k
invariant-loop-k l = l.best ≡ greatest l.k (values l.xs)
