use Rattle.factor.proofs.SumsLaws.{Summed}
use Rattle.factor.proofs.series_sums.Given as goal

abbrev pub invariant-loop-pair : goal.invariant-loop-pair
invariant-loop-pair l = Summed l.y l.last l.even l.odd l.pair
