use mathlib.Core.Path.{◌≡◌, ◌∙◌}
use Prim.Native.Nat.{◌^◌}
use native.Mathlib.Omega.{arith}
use Rattle.arithmetic.proofs.PowerLaws.{power-listed}
use Rattle.text_laws.proofs.DecimalLaws.{decimal-parts, decimal-length, ten-pos}
use Rattle.text_laws.proofs.PutLaws.{put-before}
use Rattle.text.proofs.put_decimal.Goals as goal
use Rattle.text.proofs.put_decimal.Goals.{After-power_of_ten}

pub put_fraction-point-requires : goal.put_fraction-point-requires
put_fraction-point-requires c =
    (omega (arith, decimal-length c.args.decimals c.args.number), c.requires.2)

power : (c : After-power_of_ten) → c.power_of_ten.result ≡ 10 ^ c.args.decimals
power c = c.power_of_ten.ensures ∙ power-listed c.args.decimals c.requires.0

pub nonzero_div-number : goal.nonzero_div-number
nonzero_div-number c = omega (arith, power c, ten-pos c.args.decimals)

pub put_natural-requires : goal.put_natural-requires
put_natural-requires c =
    let p = c.put_fraction-point.ensures in
    rw (power c) (omega (arith, p.place, decimal-length c.args.decimals c.args.number), omega (arith, p.place, p.within, p.same))

pub returns : goal.returns
returns c =
    let whole = rw (power (goal.at.returns c).After-power_of_ten) at c.put_natural.ensures in
    rw (decimal-parts c.args.decimals c.args.number) (put-before c.put_fraction-point.ensures whole)
