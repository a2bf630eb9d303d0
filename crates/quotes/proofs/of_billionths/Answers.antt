use mathlib.Core.Path.{◌≡◌, sym, ◌∙◌, ap}
use mathlib.Core.Bool.{false}
use Prim.Native.Nat.{◌*◌, ◌≤◌}
use native.Mathlib.Omega.{arith}
use lib.IntN.{ℤ, pos, nat_abs, ◌+ℤ◌, ◌*ℤ◌}
use lib.Signed.{le_z}
use mir.Syntax.{w64}
use mir.Val.{to_z, of_z}
use Rattle.arithmetic.specs.Rounding.{one}
use Rattle.quotes.specs.Quotes.{ranged_answer, rate_discount}
use Rattle.quotes.proofs.Divisor.{quotient-none, quotient-some, product-fits, divisor-fits, divisor-back, divisor-size}
use Rattle.quotes.proofs.QuoteLaws.{ranged-none}
use Rattle.quotes.proofs.of_billionths.Goals as goal
use Rattle.quotes.proofs.of_billionths.Goals.{Else-divisor-le0, Start}

pub overflow_mul-divisor-2 : goal.overflow_mul-divisor-2
overflow_mul-divisor-2 c = product-fits c.args.frequency c.args.row c.args.rate c.requires.0 c.requires.1 c.requires.2 c.ranges.rate

pub overflow_add-divisor : goal.overflow_add-divisor
overflow_add-divisor c = divisor-fits c.args.frequency c.args.row c.args.rate c.requires.0 c.requires.1 c.requires.2 c.ranges.rate

abbrev divisor : Start → ℤ
divisor c = pos (c.args.frequency * one) +ℤ pos c.args.row *ℤ c.args.rate

-- the divisor, read back from its bits
back :
    (c : Start) →
    to_z w64 (of_z w64 (to_z w64 (c.args.frequency * one) +ℤ to_z w64 (of_z w64 (to_z w64 c.args.row *ℤ to_z w64 (of_z w64 c.args.rate)))))
    ≡ divisor c
back c = divisor-back c.args.frequency c.args.row c.args.rate c.requires.0 c.requires.1 c.requires.2 c.ranges.rate

size : (c : Start) → nat_abs (divisor c) ≤ 612000000000
size c = divisor-size c.args.frequency c.args.row c.args.rate c.requires.0 c.requires.1 c.requires.2 c.ranges.rate

pub returns-then-divisor-le0 : goal.returns-then-divisor-le0
unfolding rate_discount
returns-then-divisor-le0 c =
    let s = (goal.at.returns-then-divisor-le0 c).Start in
    sym (ranged-none _ (quotient-none (one * one * s.args.frequency) (divisor s) (rw (back s) at c.if-divisor-le0.true)))

positive : (c : Else-divisor-le0) → le_z (divisor c.before) (pos 0) ≡ false
positive c = rw (back c.before) at c.if-divisor-le0.false

pub overflow_cast-divisor-3 : goal.overflow_cast-divisor-3
overflow_cast-divisor-3 c = rw (back (goal.at.overflow_cast-divisor-3 c).Start) ((quotient-some 0 (divisor (goal.at.overflow_cast-divisor-3 c).Start) (positive c)).0, record { fits = omega (arith, size (goal.at.overflow_cast-divisor-3 c).Start) })

pub nonzero_div-frequency : goal.nonzero_div-frequency
nonzero_div-frequency c = rw (back (goal.at.nonzero_div-frequency c).Start) (quotient-some 0 (divisor (goal.at.nonzero_div-frequency c).Start) (positive c)).1

pub returns : goal.returns
unfolding rate_discount
returns c =
    let s = c.before.before in
    c.ranged.ensures
    ∙ ap ranged_answer (rw (back s) (sym (quotient-some (one * one * s.args.frequency) (divisor s) (positive (goal.at.returns c).Else-divisor-le0)).2))
