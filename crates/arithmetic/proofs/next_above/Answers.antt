use Rattle.std.proofs.Common.{arith}
use Rattle.arithmetic.specs.Row.{values}
use Rattle.arithmetic.proofs.SumLaws.{greatest-next}
use Rattle.arithmetic.proofs.next_above.Goals as goal

pub loop-k-preserved : goal.loop-k-preserved
loop-k-preserved c = omega (arith, greatest-next c.loop-k.k (values c.args.xs.now))
