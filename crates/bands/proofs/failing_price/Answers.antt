use mathlib.Core.Path.{◌≡◌}
use Prim.Native.Nat.{◌+◌}
use native.Mathlib.Omega.{arith}
use Rattle.limits.specs.Limits.{value_limit}
use Rattle.bands.specs.Bands.{failing_price}
use Rattle.bands.proofs.FirstLaws.{searched-start, searched-jump, searched-found, searched-none}
use Rattle.bands.proofs.TestLaws.{stop-fails, stop-passes}
use Rattle.bands.proofs.failing_price.Goals as goal

pub loop-price-init : goal.loop-price-init
loop-price-init c = searched-start (omega arith)

pub returns-then-covering-ne1 : goal.returns-then-covering-ne1
unfolding failing_price
returns-then-covering-ne1 c =
    (searched-found c.loop-price.price c.loop-price.invariant (omega arith) (stop-fails c.stop_at-stop.ensures c.if-covering-ne1.true), omega arith)

pub loop-price-smaller : goal.loop-price-smaller
loop-price-smaller c = omega (arith, c.stop_at-stop.ensures.further)

pub loop-price-preserved : goal.loop-price-preserved
loop-price-preserved c =
    let stop = c.stop_at-stop.ensures in
    searched-jump _ _ c.loop-price.invariant (omega (arith, stop.further)) stop.most
    (stop-passes stop c.if-covering-ne1.false)

pub returns : goal.returns
unfolding failing_price
returns c =
    let end : c.loop-price.price ≡ value_limit + 1 = omega (arith, c.loop-price.invariant.most) in
    searched-none (rw end at c.loop-price.invariant)
