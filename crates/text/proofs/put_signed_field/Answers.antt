use mathlib.Core.Path.{◌≡◌}
use mathlib.Core.List.{◌++◌, ◌∷◌, []}
use native.Mathlib.Omega.{arith}
use lib.IntN.{nat_abs}
use mir.Facts.{to_z-of_z}
use Rattle.text_laws.specs.Decimal.{decimal}
use Rattle.text_laws.specs.inside.Put.{Put}
use Rattle.text_laws.proofs.DecimalLaws.{signed-length, signed_parts}
use Rattle.text_laws.proofs.PutLaws.{put-before}
use Rattle.text.proofs.put_signed_field.Goals as goal
use Rattle.text.proofs.put_signed_field.Goals.{After-magnitude, After-put_field-unsigned}

size : (c : After-magnitude) → c.magnitude.result ≡ nat_abs c.args.number
size c = rw (to_z-of_z c.ranges.number) at c.magnitude.ensures

pub put_field-unsigned-requires : goal.put_field-unsigned-requires
put_field-unsigned-requires c =
    let a = c.args in
    (c.requires.0, rw (size c) (omega (arith, signed-length a.decimals a.follower a.number)), c.requires.2)

-- the field as it is put, of the number without its sign
field_put : (c : After-put_field-unsigned) → let a = c.args in
    Put a.out.now a.end (decimal a.decimals (nat_abs a.number) ++ (a.follower ∷ [])) c.put_field-unsigned.result c.put_field-unsigned.new.out
field_put c = rw (size (goal.at.After-put_field-unsigned c).After-magnitude) at c.put_field-unsigned.ensures

pub put_sign-requires : goal.put_sign-requires
put_sign-requires c =
    let a = c.args in
    let p = field_put (goal.at.put_sign-requires c).After-put_field-unsigned in
    rw (to_z-of_z c.ranges.number)
    (omega (arith, p.place, signed-length a.decimals a.follower a.number), omega (arith, p.place, p.same))

pub returns : goal.returns
returns c =
    let sign = rw (to_z-of_z c.ranges.number) at c.put_sign.ensures in
    rw (signed_parts c.args.decimals c.args.follower c.args.number) (put-before (field_put (goal.at.returns c).After-put_field-unsigned) sign)
