use mathlib.Core.Path.{◌≡◌, sym, ◌∙◌}
use native.Mathlib.Omega.{arith}
use lib.IntN.{nat_abs}
use mir.Facts.{to_z-of_z}
use Rattle.continuous.proofs.Answers.{amount-refused, amount-found}
use Rattle.continuous.proofs.discount.Goals as goal
use Rattle.continuous.proofs.discount.Goals.{After-magnitude-size}

size : (c : After-magnitude-size) → c.magnitude-size.result ≡ nat_abs c.args.amount
size c = rw (to_z-of_z c.ranges.amount) at c.magnitude-size.ensures

pub returns-then-size-gt4000000000 : goal.returns-then-size-gt4000000000
returns-then-size-gt4000000000 c = sym (amount-refused c.args.amount (omega (arith, size c.before)))

pub returns : goal.returns
returns c =
    c.discount_of_quotient.ensures ∙ amount-found c.args.amount _ c.ranges.amount (size c.before.before) c.if-size-gt4000000000.false
