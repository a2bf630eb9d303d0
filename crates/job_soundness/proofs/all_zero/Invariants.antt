use Rattle.std.proofs.Common.{◌≡◌}
use Rattle.std.specs.Prelude.{eqb}
use Rattle.arithmetic.specs.Row.{values, each, between}
use Rattle.job_soundness.proofs.all_zero.Given as goal

abbrev pub invariant-loop-byte : goal.invariant-loop-byte
invariant-loop-byte l = each l.byte-index (between 0 0 (values l.bytes)) ≡ eqb l.top 0
