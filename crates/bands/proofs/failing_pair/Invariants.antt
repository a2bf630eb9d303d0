use Rattle.std.proofs.Common.{◌+◌}
use Rattle.limits.specs.Limits.{most_steps}
use Rattle.bands.specs.Bands.{bands_of, fails}
use Rattle.bands.proofs.FirstLaws.{Searched}
use Rattle.bands.proofs.failing_pair.Given as goal

abbrev pub invariant-loop-row : goal.invariant-loop-row
invariant-loop-row l = Searched (fails (bands_of l.firsts l.lasts l.lowests l.highests)) 1 (most_steps + 1) l.row
