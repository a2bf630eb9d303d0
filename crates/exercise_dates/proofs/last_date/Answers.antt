use Prim.Native.Nat.{◌-◌}
use native.Mathlib.Omega.{arith}
use lib.ListN.{length}
use Rattle.exercise_dates.proofs.DateLaws.{none_last}
use Rattle.exercise_dates.proofs.last_date.Goals as goal

pub returns-then-count-eq0 : goal.returns-then-count-eq0
returns-then-count-eq0 c = none_last c.args.dates.now c.if-count-eq0.true

pub overflow_cast-result : goal.overflow_cast-result
overflow_cast-result c = omega (arith, c.type_inv.dates (length c.args.dates.now - 1))
