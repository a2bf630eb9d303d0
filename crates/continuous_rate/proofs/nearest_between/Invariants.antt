use Rattle.std.proofs.Common.{◌≡◌, false, ◌+◌}
use Rattle.continuous_rate.specs.Least.{first_least}
use Rattle.continuous_rate.specs.inside.Search.{side_miss, window_miss}
use Rattle.continuous_rate.proofs.nearest_between.Given as goal

abbrev pub invariant-loop-k : goal.invariant-loop-k
invariant-loop-k l =
    (l.best ≡ l.from + first_least (window_miss l.discount l.from) l.k) × (l.least ≡ side_miss l.discount false l.best)
