use Rattle.std.proofs.Common.{arith}
use Rattle.arithmetic.proofs.RowLaws.{filled-start, filled_next, filled-all}
use Rattle.branches.proofs.fill_table.Goals as goal

pub loop-index-init : goal.loop-index-init
loop-index-init c = filled-start _ _

pub loop-index-preserved : goal.loop-index-preserved
loop-index-preserved c = filled_next c.loop-index.invariant (omega arith) c.down_of.ensures

pub returns : goal.returns
returns c = filled-all _ _ _ _ c.loop-index.invariant (omega arith)
