use Rattle.arithmetic.proofs.RowLaws.{set-only}
use Rattle.fitting.proofs.step.add_at.Goals as goal

pub returns : goal.returns
returns c = set-only c.args.next.now c.args.at c.args.amount c.requires.0
