use Rattle.std.proofs.Common.{length}
use Rattle.bands.specs.Bands.{bands_of, contains}
use Rattle.bands.proofs.FirstLaws.{Searched}
use Rattle.lending.proofs.find_band.Given as goal

abbrev pub invariant-loop-k : goal.invariant-loop-k
invariant-loop-k l = Searched (contains (bands_of l.firsts l.lasts l.lowests l.highests) l.row l.price) 0 (length l.firsts) l.k
