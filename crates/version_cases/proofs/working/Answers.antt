use Rattle.arithmetic.proofs.RefusalLaws.{value-or}
use Rattle.std.proofs.Common.{arith}
use Rattle.reversion.proofs.EntryLaws.{working-answer-most}
use Rattle.version_cases.proofs.working.Goals as goal

pub returns : goal.returns
returns c = rw (c.unwrap_or.ensures, value-or c.working_reversion.result, c.working_reversion.ensures) (omega (arith, working-answer-most 2 c.args.reversion))
