use mathlib.Core.Path.{sym}
use native.Mathlib.Omega.{arith}
use Rattle.node_lines.proofs.ReadingLaws.{stand-none, stand-test}
use Rattle.node_lines.proofs.stand_before.Goals as goal

pub returns-then-next-count : goal.returns-then-next-count
returns-then-next-count c = let a = c.args in sym (stand-none a.count a.next a.size (omega arith))

pub returns : goal.returns
returns c = let a = c.args in sym (stand-test a.count a.next a.size (omega arith))
