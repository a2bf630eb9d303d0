-- The table of powers of ten holds each of them once, and nothing past its end.
-- Assumes nothing.
use mathlib.Core.Path.{◌≡◌}
use Prim.Native.Nat.{ℕ, ◌^◌, ◌≤◌, ◌<◌}
use borrow.Author.Tests.{lt-ltb, le-ltb}
use Rattle.arithmetic.specs.Power.{power_of_ten}

pub power-listed : (k : ℕ) → k < 19 → power_of_ten k ≡ 10 ^ k
unfolding power_of_ten
power-listed k h = rw (lt-ltb k 19 h)

pub power-past : (k : ℕ) → 19 ≤ k → power_of_ten k ≡ 0
unfolding power_of_ten
power-past k h = rw (le-ltb k 19 h)
