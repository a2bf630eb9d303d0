use mathlib.Core.Path.{sym}
use Rattle.quotes.proofs.QuoteLaws.{ranged-low, ranged-high, ranged-known}
use Rattle.quotes.proofs.ranged.Goals as goal

pub returns-then-discount-lt100000000 : goal.returns-then-discount-lt100000000
returns-then-discount-lt100000000 c = sym (ranged-low c.args.discount c.if-discount-lt100000000.true)

pub returns-then-discount-gt2000000000 : goal.returns-then-discount-gt2000000000
returns-then-discount-gt2000000000 c =
    sym (ranged-high c.args.discount c.if-discount-lt100000000.false c.if-discount-gt2000000000.true)

pub returns : goal.returns
returns c = sym (ranged-known c.args.discount c.if-discount-lt100000000.false c.if-discount-gt2000000000.false)
