use mathlib.Core.Path.{sym}
use native.Mathlib.Omega.{arith}
use Rattle.node_lines.proofs.RowLaws.{room-short, room-test}
use Rattle.node_lines.proofs.has_room.Goals as goal

pub returns-then-end-count : goal.returns-then-end-count
returns-then-end-count c = sym (room-short c.args.count c.args.size c.args.end (omega arith))

pub returns : goal.returns
returns c = sym (room-test c.args.count c.args.size c.args.end (omega arith))
