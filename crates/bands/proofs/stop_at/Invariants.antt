use Rattle.bands.specs.Bands.{bands_of}
use Rattle.bands.specs.inside.Stops.{StopAt}
use Rattle.bands.proofs.stop_at.Given as goal

abbrev pub invariant-loop-k : goal.invariant-loop-k
invariant-loop-k l =
    StopAt (bands_of l.firsts l.lasts l.lowests l.highests) l.row l.price l.k l.stop.covering l.stop.next
