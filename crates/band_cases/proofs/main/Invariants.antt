use Rattle.std.proofs.Common.{length}
use Rattle.band_cases.proofs.main.Given as goal

abbrev pub decreases-loop-table : goal.decreases-loop-table
decreases-loop-table l = length l.rest
