use mathlib.Core.Path.{sym, ap, subst}
use lib.Dec.{T}
use lib.Ieee.{of_bits, neg}
use lib.Ieee.Compare.{differs_from_itself}
use Rattle.figure.specs.Figure.{beyond}
use Rattle.figure.proofs.Patterns.{above, below}
use Rattle.figure.proofs.is_beyond.Goals as goal

pub returns-then-x : goal.returns-then-x
unfolding beyond
returns-then-x c = sym (ap beyond (differs_from_itself c.before.args.x (subst T (sym c.if-x.true) tt)))

pub returns-then-x-2 : goal.returns-then-x-2
unfolding of_bits
returns-then-x-2 c = sym (above c.before.before.args.x c.if-x-2.true)

pub returns : goal.returns
unfolding of_bits neg
returns c = below c.before.before.args.x c.before.if-x.false c.if-x-2.false
