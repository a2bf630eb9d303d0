use Rattle.std.proofs.Common.{refl, arith}
use Rattle.arithmetic.proofs.RowLaws.{filled-start, filled_next, filled-all}
use Rattle.fitting.proofs.step.divide.Goals as goal

pub loop-k-init : goal.loop-k-init
loop-k-init c = filled-start _ _

pub loop-k-preserved : goal.loop-k-preserved
loop-k-preserved c = filled_next c.loop-k.invariant (omega arith) refl

pub returns : goal.returns
returns c = filled-all _ _ _ _ c.loop-k.invariant (omega arith)
