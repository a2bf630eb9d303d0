use Rattle.std.proofs.Common.{◌+◌, sym, arith}
use borrow.Author.Tests.{eq-eqb, ne_eqb}
use Rattle.arithmetic.specs.Row.{values}
use Rattle.arithmetic.proofs.RowLaws.{each_none, each_more, each-fails}
use Rattle.curve.proofs.in_order.Goals as goal

pub loop-i-init : goal.loop-i-init
loop-i-init c = each_none _

pub returns-then-row-i : goal.returns-then-row-i
returns-then-row-i c =
    sym (each-fails _ c.loop-i.i _ (omega arith) (ne_eqb (values c.args.rows.now c.loop-i.i) (c.loop-i.i + 1) c.if-row-i.true))

pub loop-i-preserved : goal.loop-i-preserved
loop-i-preserved c =
    each_more _ _ c.loop-i.invariant (eq-eqb (values c.args.rows.now c.loop-i.i) (c.loop-i.i + 1) c.if-row-i.false)
