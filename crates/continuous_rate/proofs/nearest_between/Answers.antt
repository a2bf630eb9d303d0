use Rattle.std.proofs.Common.{arith}
use Rattle.continuous_rate.specs.inside.Search.{window_miss}
use Rattle.continuous_rate.proofs.LeastLaws.{least-none}
use Rattle.continuous_rate.proofs.Window.{scan-moves, scan-stays}
use Rattle.continuous_rate.proofs.nearest_between.Goals as goal
use Rattle.continuous_rate.proofs.nearest_between.Goals.{then-miss-least, else-miss-least}

pub loop-k-init : goal.loop-k-init
loop-k-init c = (omega (arith, least-none (window_miss c.args.discount c.args.from)), c.side_miss-least.ensures)

pub loop-k-preserved : goal.loop-k-preserved
loop-k-preserved c =
    let i = c.loop-k.invariant in
    elim c.if-miss-least.branch [
      | then-miss-least w ↦ rw (w.best-is, w.least-is) (scan-moves _ _ _ i.0 i.1 c.side_miss-miss.ensures w.if-miss-least.true, c.side_miss-miss.ensures)
      | else-miss-least w ↦ rw (w.best-is, w.least-is) (scan-stays _ _ _ i.0 i.1 c.side_miss-miss.ensures w.if-miss-least.false, i.1)
    ]
