use mathlib.Core.Path.{◌≡◌, ap}
use mathlib.Core.Bool.{false}
use Prim.Native.Nat.{◌<◌, ◌^◌}
use native.Mathlib.Omega.{arith}
use lib.IntN.{pos, nat_abs}
use lib.Signed.{lt_z}
use mir.Facts.{to_z-of_z}
use Rattle.arithmetic.proofs.Signed.{negated_fits, negated_back, is_whole, size-most, size-lowest, size-other}
use Rattle.arithmetic.proofs.magnitude.Goals as goal
use Rattle.arithmetic.proofs.magnitude.Goals.{Then-number-lt0}

pub returns-then-number-ltminus9223372036854775807 : goal.returns-then-number-ltminus9223372036854775807
returns-then-number-ltminus9223372036854775807 c = let s = c.before in size-lowest s.args.number s.ranges.number (rw (to_z-of_z s.ranges.number) at c.if-number-ltminus9223372036854775807.true)

small : (c : Then-number-lt0) → nat_abs c.before.before.args.number < 2 ^ 63
small c = let s = c.before.before in size-other s.args.number s.ranges.number (rw (to_z-of_z s.ranges.number) at c.before.if-number-ltminus9223372036854775807.false)

pub overflow_sub-size : goal.overflow_sub-size
overflow_sub-size c = let s = c.before.before in negated_fits s.args.number (small c) s.ranges.number c.if-number-lt0.true

pub overflow_cast-result : goal.overflow_cast-result
overflow_cast-result c =
    let s = c.before.before in
    rw (negated_back s.args.number (small c) s.ranges.number c.if-number-lt0.true) (tt, record { fits = omega (arith, small c) })

pub returns-then-number-lt0 : goal.returns-then-number-lt0
returns-then-number-lt0 c = let s = c.before.before in ap nat_abs (negated_back s.args.number (small c) s.ranges.number c.if-number-lt0.true)

pub overflow_cast-result-2 : goal.overflow_cast-result-2
overflow_cast-result-2 c =
    let s = c.before.before in
    let h : lt_z s.args.number (pos 0) ≡ false = rw (to_z-of_z s.ranges.number) at c.if-number-lt0.false in
    rw (to_z-of_z s.ranges.number) (is_whole s.args.number h, record { fits = omega (arith, size-most s.args.number s.ranges.number) })
