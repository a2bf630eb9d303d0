use Rattle.std.proofs.Common.{◌*◌, ◌≤◌}
use Rattle.version_cases.proofs.total.Given as goal

abbrev pub invariant-loop-index : goal.invariant-loop-index
invariant-loop-index g l = l.sum ≤ l.index * 1000000000
