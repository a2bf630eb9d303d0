use mathlib.Core.Path.{sym}
use Rattle.limits.specs.Limits.{most_discount}
use Rattle.limits.proofs.LimitLaws.{from-one-none, from-one-rest}
use Rattle.limits.proofs.is_discount.Goals as goal

pub returns-then-discount-lt1 : goal.returns-then-discount-lt1
returns-then-discount-lt1 c = sym (from-one-none most_discount c.args.discount c.if-discount-lt1.true)

pub returns : goal.returns
returns c = sym (from-one-rest most_discount c.args.discount c.if-discount-lt1.false)
