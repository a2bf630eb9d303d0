use native.Mathlib.Omega.{arith}
use Prim.Native.Nat.{◌<◌}
use Rattle.text_laws.proofs.DecimalLaws.{field-length}
use Rattle.text_laws.proofs.PutLaws.{put_one, put-before}
use Rattle.text.proofs.put_field.Goals as goal
use Rattle.text.proofs.put_field.Goals.{Start}

room : (s : Start) → 0 < s.args.end
room s = omega (arith, field-length s.args.decimals s.args.number s.args.follower)

pub overflow_sub-after : goal.overflow_sub-after
overflow_sub-after c = room (goal.at.overflow_sub-after c).Start

pub bounds-out-after : goal.bounds-out-after
bounds-out-after c = let r = room (goal.at.bounds-out-after c).Start in omega arith

pub put_decimal-requires : goal.put_decimal-requires
put_decimal-requires c =
    let a = c.args in
    let b = put_one a.out.now a.end a.follower (room (goal.at.put_decimal-requires c).Start) c.requires.2 in
    (c.requires.0, omega (arith, field-length a.decimals a.number a.follower), omega (arith, b.same))

pub shape_of-out : goal.shape_of-out
shape_of-out c =
    omega (arith, (put_one c.args.out.now c.args.end c.args.follower (room (goal.at.shape_of-out c).Start) c.requires.2).same, c.put_decimal.ensures.same)

pub returns : goal.returns
returns c =
    put-before (put_one c.args.out.now c.args.end c.args.follower (room (goal.at.returns c).Start) c.requires.2) c.put_decimal.ensures
