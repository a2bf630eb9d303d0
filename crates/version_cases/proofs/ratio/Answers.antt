use Rattle.arithmetic.proofs.RefusalLaws.{value-or}
use Rattle.reversion.proofs.EntryLaws.{ratio-answer-most}
use Rattle.version_cases.proofs.ratio.Goals as goal

pub returns : goal.returns
returns c = rw (c.unwrap_or.ensures, value-or c.variance_ratio.result, c.variance_ratio.ensures) (ratio-answer-most 2 c.args.reversion)
