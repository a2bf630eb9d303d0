use Rattle.std.proofs.Common.{◌≡◌, true}
use Rattle.arithmetic.specs.Row.{each}
use Rattle.curve.specs.Curve.{place_at}
use Rattle.curve.proofs.in_order.Given as goal

abbrev pub invariant-loop-i : goal.invariant-loop-i
invariant-loop-i l = each l.i (place_at l.rows) ≡ true
