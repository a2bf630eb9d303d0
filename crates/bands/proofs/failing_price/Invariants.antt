use Prim.Native.Nat.{◌+◌, ◌-◌}
use Rattle.limits.specs.Limits.{value_limit}
use Rattle.bands.specs.Bands.{bands_of, failing}
use Rattle.bands.proofs.FirstLaws.{Searched}
use Rattle.bands.proofs.failing_price.Given as goal

abbrev pub invariant-loop-price : goal.invariant-loop-price
invariant-loop-price l = Searched (failing (bands_of l.firsts l.lasts l.lowests l.highests) l.row) 0 (value_limit + 1) l.price

abbrev pub decreases-loop-price : goal.decreases-loop-price
decreases-loop-price l = value_limit + 1 - l.price
