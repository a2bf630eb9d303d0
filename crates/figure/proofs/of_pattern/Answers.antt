use mathlib.Core.Path.{sym}
use lib.Ieee.{of_bits, nan_bits}
use Rattle.figure.proofs.FigureLaws.{nan_pattern, other-pattern, other-bits, float-of-nan, float-of-other}
use Rattle.figure.proofs.of_pattern.Goals as goal

pub float_from_bits-result : goal.float_from_bits-result
unfolding nan_bits
float_from_bits-result c = tt

pub returns-then-bits-gt9218868437227405312 : goal.returns-then-bits-gt9218868437227405312
unfolding of_bits
returns-then-bits-gt9218868437227405312 c = sym (float-of-nan c.before.args.bits (nan_pattern c.before.args.bits c.if-bits-gt9218868437227405312.true))

pub float_from_bits-result-2 : goal.float_from_bits-result-2
float_from_bits-result-2 c = other-bits c.before.args.bits c.if-bits-gt9218868437227405312.false

pub returns : goal.returns
returns c = sym (float-of-other c.before.args.bits (other-pattern c.before.args.bits c.if-bits-gt9218868437227405312.false))
