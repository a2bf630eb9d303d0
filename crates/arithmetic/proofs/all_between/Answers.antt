use Rattle.std.proofs.Common.{arith, sym}
use Rattle.arithmetic.specs.Row.{values}
use Rattle.arithmetic.proofs.RowLaws.{each_none, each_more, each-fails}
use Rattle.arithmetic.proofs.BetweenLaws.{between-holds, between-below, between-above}
use Rattle.arithmetic.proofs.all_between.Goals as goal

pub loop-x-init : goal.loop-x-init
loop-x-init c = each_none _

pub returns-then-x-low : goal.returns-then-x-low
returns-then-x-low c =
    sym (each-fails _ c.loop-x.x-index _ (omega arith) (between-below c.args.low c.args.high (values c.args.xs.now) _ (omega arith)))

pub returns-then-high-x : goal.returns-then-high-x
returns-then-high-x c =
    sym (each-fails _ c.loop-x.x-index _ (omega arith) (between-above c.args.low c.args.high (values c.args.xs.now) _ (omega arith)))

pub loop-x-preserved : goal.loop-x-preserved
loop-x-preserved c =
    each_more _ _ c.loop-x.invariant
    (between-holds c.args.low c.args.high (values c.args.xs.now) c.loop-x.x-index (omega arith) (omega arith))
