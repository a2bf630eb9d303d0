use Rattle.std.proofs.Common.{length}
use Rattle.book_cases.proofs.main.Given as goal

abbrev pub decreases-loop-file : goal.decreases-loop-file
decreases-loop-file l = length l.rest
