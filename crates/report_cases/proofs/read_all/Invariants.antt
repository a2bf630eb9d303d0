use Rattle.std.proofs.Common.{length}
use Rattle.report_cases.proofs.read_all.Given as goal

abbrev pub decreases-loop-file : goal.decreases-loop-file
decreases-loop-file l = length l.rest
