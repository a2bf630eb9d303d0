use Rattle.std.proofs.Common.{◌≡◌, true}
use Rattle.arithmetic.specs.Row.{each}
use Rattle.curve.specs.Curve.{converts_at}
use Rattle.curve.proofs.all_convert.Given as goal

abbrev pub invariant-loop-i : goal.invariant-loop-i
invariant-loop-i l = each l.i (converts_at l.frequency l.kinds l.figures) ≡ true
