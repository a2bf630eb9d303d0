use native.Mathlib.Omega.{arith}
use Rattle.text_laws.proofs.DecimalLaws.{field_room}
use Rattle.text_laws.proofs.PutLaws.{put-before}
use Rattle.text.proofs.put_bounded.Goals as goal

pub put_field-start-requires : goal.put_field-start-requires
put_field-start-requires c =
    (omega arith, omega (arith, field_room 0 c.args.bound 10 c.ranges.bound.fits), c.requires.1)

pub put_field-requires : goal.put_field-requires
put_field-requires c =
    let p = c.put_field-start.ensures in
    let b = field_room 0 c.args.bound 10 c.ranges.bound.fits in
    let v = field_room 9 c.args.value 32 c.ranges.value.fits in
    (omega arith, omega (arith, p.place, b, v), omega (arith, p.place, p.within, p.same))

pub returns : goal.returns
returns c = put-before c.put_field-start.ensures c.put_field.ensures
