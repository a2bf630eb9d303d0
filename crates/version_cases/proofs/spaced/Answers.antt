use Rattle.arithmetic.proofs.RefusalLaws.{value-or}
use Rattle.std.proofs.Common.{arith}
use Rattle.spacing.proofs.VersionLaws.{version-answer-most}
use Rattle.version_cases.proofs.spaced.Goals as goal

pub returns : goal.returns
returns c = rw (c.unwrap_or.ensures, value-or c.version_spacing.result, c.version_spacing.ensures) (omega (arith, version-answer-most 2 c.args.frequency c.args.volatility c.args.reversion))
