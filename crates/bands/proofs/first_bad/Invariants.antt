use Rattle.std.proofs.Common.{length}
use Rattle.arithmetic.specs.Row.{values}
use Rattle.bands.specs.Bands.{bands_of, unsound}
use Rattle.bands.proofs.FirstLaws.{Searched}
use Rattle.bands.proofs.first_bad.Given as goal

abbrev pub invariant-loop-k : goal.invariant-loop-k
invariant-loop-k l = Searched (unsound (bands_of l.firsts l.lasts l.lowests l.highests) (values l.haircuts)) 0 (length l.firsts) l.k
