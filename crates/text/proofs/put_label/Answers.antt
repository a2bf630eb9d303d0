use native.Mathlib.Omega.{arith}
use Rattle.text_laws.proofs.DecimalLaws.{field_room}
use Rattle.text_laws.proofs.PutLaws.{put-before}
use Rattle.text.proofs.put_label.Goals as goal

pub put_field-start-requires : goal.put_field-start-requires
put_field-start-requires c =
    (omega arith, omega (arith, field_room 0 c.args.number c.args.follower c.ranges.number.fits), c.requires.1)

pub put_word-requires : goal.put_word-requires
put_word-requires c =
    let p = c.put_field-start.ensures in
    (omega (arith, p.place, field_room 0 c.args.number c.args.follower c.ranges.number.fits), omega (arith, p.place, p.within, p.same))

pub returns : goal.returns
returns c =
    put-before c.put_field-start.ensures c.put_word.ensures
