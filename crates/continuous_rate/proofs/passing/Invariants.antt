use mathlib.Core.Path.{◌≡◌}
use mathlib.Core.Bool.{true, false}
use Prim.Native.Nat.{◌+◌, ◌-◌, ◌≤◌, ◌<◌}
use Rattle.arithmetic.specs.Rounding.{one}
use Rattle.continuous_rate.specs.inside.Search.{before}
use Rattle.continuous_rate.proofs.passing.Given as goal

abbrev pub invariant-loop-high : goal.invariant-loop-high
invariant-loop-high l =
    (l.low < l.high) × (l.high ≤ one + 1) × (before l.discount l.below l.low ≡ true) × (l.high ≤ one → before l.discount l.below l.high ≡ false)

abbrev pub decreases-loop-high : goal.decreases-loop-high
decreases-loop-high l = l.high - l.low
