use mathlib.Core.Path.{◌≡◌}
use Prim.Native.Nat.{◌+◌}
use native.Mathlib.Omega.{arith}
use Rattle.limits.specs.Limits.{most_steps}
use Rattle.bands.specs.Bands.{failing_row}
use Rattle.bands.proofs.FirstLaws.{searched-start, searched-more, searched-found, searched-none}
use Rattle.bands.proofs.TestLaws.{fails-false, fails-true}
use Rattle.bands.proofs.failing_pair.Goals as goal

pub loop-row-init : goal.loop-row-init
loop-row-init c = searched-start (omega arith)

pub returns-in-Some : goal.returns-in-Some
unfolding failing_row
returns-in-Some c = (
  searched-found c.loop-row.row c.loop-row.invariant (omega arith)
      (fails-true _ _ _ c.in-Some.ensures.0 c.in-Some.ensures.1),
  omega arith,
  c.in-Some.ensures.0,
)

pub loop-row-preserved : goal.loop-row-preserved
loop-row-preserved c =
    searched-more c.loop-row.row c.loop-row.invariant (omega arith) (fails-false _ _ _ c.in_default.ensures (omega arith))

pub returns : goal.returns
unfolding failing_row
returns c =
    let end : c.loop-row.row ≡ most_steps + 1 = omega (arith, c.loop-row.invariant.most) in
    searched-none (rw end at c.loop-row.invariant)
