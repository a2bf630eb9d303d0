use mathlib.Core.Path.{◌≡◌, ◌∙◌, ap}
use mathlib.Core.Bool.{Bool}
use Prim.Native.Nat.{ℕ, ◌+◌, ◌-◌, ◌*◌, ◌/◌, ◌≤◌}
use native.Mathlib.Nat.{mul-le-mul}
use native.Mathlib.Omega.{arith}
use lib.IntN.{ℤ, pos, nat_abs}
use lib.Signed.{lt_z}
use mir.Syntax.{w64}
use mir.Val.{to_z, of_z}
use mir.Facts.{to_z-of_z, to_z_pos}
use Rattle.arithmetic.proofs.Signed.{minus-fits, minus-back}
use Rattle.continuous.specs.Continuous.{continuous_answer}
use Rattle.quotes.specs.Quotes.{ranged_answer, yield_discount}
use Rattle.quotes.proofs.YieldLaws.{amount-above, amount-below, quotient-small}
use Rattle.quotes.proofs.of_yearly.Goals as goal
use Rattle.quotes.proofs.of_yearly.Goals.{After-magnitude, Start}

-- the rate, read back from its bits: its size, its sign, and the product
size : (c : After-magnitude) → c.magnitude.result ≡ nat_abs c.args.rate
size c = rw (to_z-of_z c.ranges.rate) at c.magnitude.ensures

sign : (c : Start) (b : Bool) → lt_z (to_z w64 (of_z w64 c.args.rate)) (pos 0) ≡ b → lt_z c.args.rate (pos 0) ≡ b
sign c b h = rw (to_z-of_z c.ranges.rate) at h

product : (c : After-magnitude) → c.args.row * c.magnitude.result ≤ 600000000000
product c =
    let small : c.magnitude.result ≤ 10000000000 = omega (arith, size c, c.requires.3) in
    mul-le-mul c.requires.2 small

-- the size of the amount, at or above 0 and below it
abbrev above : After-magnitude → ℕ
above c = c.args.row * c.magnitude.result / c.args.frequency

abbrev below : After-magnitude → ℕ
below c = (c.args.row * c.magnitude.result + (c.args.frequency - 1)) / c.args.frequency

above-small : (c : After-magnitude) → above c ≤ 600000000011
above-small c = quotient-small _ _ (omega (arith, product c))

below-small : (c : After-magnitude) → below c ≤ 600000000011
below-small c = quotient-small _ _ (omega (arith, product c, c.requires.1))

pub overflow_mul-size : goal.overflow_mul-size
overflow_mul-size c = omega (arith, product c)

pub overflow_add-size : goal.overflow_add-size
overflow_add-size c = omega (arith, product (goal.at.overflow_add-size c).After-magnitude, c.requires.1)

pub overflow_cast-size : goal.overflow_cast-size
overflow_cast-size c = record { sfits = omega (arith, below-small (goal.at.overflow_cast-size c).After-magnitude) }

pub overflow_sub-size : goal.overflow_sub-size
overflow_sub-size c = minus-fits (below (goal.at.overflow_sub-size c).After-magnitude) (omega (arith, below-small (goal.at.overflow_sub-size c).After-magnitude))

pub returns-then-rate-lt0 : goal.returns-then-rate-lt0
unfolding yield_discount
returns-then-rate-lt0 c =
    let m = c.before.before in
    c.of_amount.ensures
    ∙ ap (λ (z : ℤ). ranged_answer (continuous_answer z).value)
    (minus-back (below m) (omega (arith, below-small m))
    ∙ amount-below _ _ _ m.args.rate m.requires.0 (size m) (sign m.before _ c.if-rate-lt0.true))

pub overflow_cast-size-2 : goal.overflow_cast-size-2
overflow_cast-size-2 c = record { sfits = omega (arith, above-small (goal.at.overflow_cast-size-2 c).After-magnitude) }

pub returns : goal.returns
unfolding yield_discount
returns c =
    let m = c.before.before in
    c.of_amount-2.ensures
    ∙ ap (λ (z : ℤ). ranged_answer (continuous_answer z).value)
    (to_z_pos w64 (omega (arith, above-small m)) ∙ amount-above _ _ _ m.args.rate (size m) (sign m.before _ c.if-rate-lt0.false))
