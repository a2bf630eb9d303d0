use mathlib.Core.Path.{◌≡◌, ap}
use mathlib.Core.Bool.{false}
use mathlib.Core.List.{[], ◌∷◌}
use Prim.Native.Nat.{◌<◌}
use native.Mathlib.Omega.{arith}
use lib.IntN.{pos}
use lib.ListN.{length}
use lib.Signed.{lt_z}
use mir.Facts.{to_z-of_z}
use Rattle.text_laws.specs.Decimal.{sign_of}
use Rattle.text_laws.proofs.PutLaws.{put-none, put_one}
use Rattle.text_laws.proofs.Signs.{sign-negative, sign-none}
use Rattle.text.proofs.put_sign.Goals as goal
use Rattle.text.proofs.put_sign.Goals.{Then-number-lt0}

negative : (c : Then-number-lt0) → sign_of c.args.number ≡ 45 ∷ []
negative c = sign-negative c.args.number (rw (to_z-of_z c.ranges.number) at c.if-number-lt0.true)

room : (c : Then-number-lt0) → 0 < c.args.end
room c = omega (arith, ap length (negative c), c.requires.0)

pub overflow_sub-start : goal.overflow_sub-start
overflow_sub-start c = room c

pub bounds-out-start : goal.bounds-out-start
bounds-out-start c = let r = room c in omega arith

pub returns-then-number-lt0 : goal.returns-then-number-lt0
returns-then-number-lt0 c = rw (negative c) (put_one c.args.out.now c.args.end 45 (room c) c.requires.1)

pub returns : goal.returns
returns c =
    let h : lt_z c.args.number (pos 0) ≡ false = rw (to_z-of_z c.ranges.number) at c.if-number-lt0.false in
    rw (sign-none c.args.number h) (put-none c.args.out.now c.args.end c.requires.1)
