use mathlib.Core.Path.{sym}
use Prim.Native.Nat.{◌-◌, ◌*◌, ◌%◌, ◌^◌}
use native.Mathlib.Omega.{arith}
use lib.Pow.{pow_pos, pow_mono}
use Rattle.arithmetic.specs.Rounding.{one}
use Rattle.arithmetic.proofs.RoundingLaws.{nearest_zero}
use Rattle.figure.proofs.Scaling.{bit_up, scaled-is, table-one}
use Rattle.figure.proofs.scaled.Goals as goal

pub returns-then-shift-gt84 : goal.returns-then-shift-gt84
returns-then-shift-gt84 c =
    let a = c.before.args in
    sym (nearest_zero (a.significand * one) (2 ^ a.shift) (omega (arith, pow_mono {i = 85} {j = a.shift} (omega arith))))

pub overflow_mul-whole : goal.overflow_mul-whole
overflow_mul-whole c = rw (table-one _ c.power_of_ten-one.ensures) (omega arith)

pub overflow_mul-whole-2 : goal.overflow_mul-whole-2
overflow_mul-whole-2 c = rw (table-one _ c.power_of_ten-one.ensures) (omega arith)

pub overflow_add-whole : goal.overflow_add-whole
overflow_add-whole c = rw (table-one _ c.power_of_ten-one.ensures) (omega arith)

pub overflow_add-result : goal.overflow_add-result
overflow_add-result c =
    rw (table-one _ c.power_of_ten-one.ensures, bit_up (c.before.before.args.shift - 31) (omega arith))
    (omega (arith, pow_mono {i = c.before.before.args.shift - 31} {j = 53} (omega arith)))

pub overflow_mul-result : goal.overflow_mul-result
overflow_mul-result c =
    rw (bit_up (c.before.before.args.shift - 31) (omega arith))
    (omega (arith, pow_mono {i = c.before.before.args.shift - 31} {j = 53} (omega arith)))

pub nonzero_div-result : goal.nonzero_div-result
nonzero_div-result c =
    rw (bit_up (c.before.before.args.shift - 31) (omega arith)) (omega (arith, pow_pos (c.before.before.args.shift - 31)))

pub returns : goal.returns
returns c =
    scaled-is c.before.before.args.significand c.power_of_ten-one.result c.before.before.args.shift
    ((1 * 2 ^ (c.before.before.args.shift - 31)) % 2 ^ 64)
    (table-one c.power_of_ten-one.result c.power_of_ten-one.ensures)
    (bit_up (c.before.before.args.shift - 31) (omega arith))
    (omega arith)
