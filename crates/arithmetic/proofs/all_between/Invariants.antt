use Rattle.std.proofs.Common.{◌≡◌, true}
use Rattle.arithmetic.specs.Row.{values, each, between}
use Rattle.arithmetic.proofs.all_between.Given as goal

abbrev pub invariant-loop-x : goal.invariant-loop-x
invariant-loop-x l = each l.x-index (between l.low l.high (values l.xs)) ≡ true
