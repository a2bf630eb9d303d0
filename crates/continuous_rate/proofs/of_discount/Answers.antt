use mathlib.Core.Path.{sym, ◌∙◌, ap}
use Prim.Native.Nat.{◌*◌, ◌≤◌}
use native.Mathlib.Omega.{arith}
use mir.Syntax.{w64}
use mir.Facts.{to_z_pos}
use Rattle.arithmetic.proofs.Signed.{minus-fits, minus-back}
use Rattle.limits.proofs.LimitLaws.{discount-most}
use Rattle.step_rate.specs.StepRate.{answered_rate}
use Rattle.continuous_rate.proofs.Candidates.{rate-above, rate-below}
use Rattle.continuous_rate.proofs.RateLaws.{answer-refused, answer-known, quotient_fits}
use Rattle.continuous_rate.proofs.of_discount.Goals as goal
use Rattle.continuous_rate.proofs.of_discount.Goals.{After-nearest_above, After-nearest_below}

pub returns-then-not-is_discount : goal.returns-then-not-is_discount
returns-then-not-is_discount c = sym (answer-refused c.args.discount (sym c.is_discount.ensures ∙ c.if-not-is_discount.true))

pub nearest_below-requires : goal.nearest_below-requires
nearest_below-requires c = (omega arith, discount-most _ (sym c.is_discount.ensures ∙ c.if-not-is_discount.false))

-- four times the quotient found is within the limit
below-fits : (c : After-nearest_below) → 4 * c.nearest_below.result ≤ 4000000000
below-fits c = quotient_fits _ _ _ c.nearest_below.ensures

above-fits : (c : After-nearest_above) → 4 * c.nearest_above.result ≤ 4000000000
above-fits c = quotient_fits _ _ _ c.nearest_above.ensures

pub overflow_mul-result : goal.overflow_mul-result
overflow_mul-result c = omega (arith, below-fits c)

pub overflow_cast-result : goal.overflow_cast-result
overflow_cast-result c = record { sfits = omega (arith, below-fits c) }

pub overflow_sub-result : goal.overflow_sub-result
overflow_sub-result c = minus-fits (4 * c.nearest_below.result) (omega (arith, below-fits c))

pub returns-then-discount-gt-ONE : goal.returns-then-discount-gt-ONE
returns-then-discount-gt-ONE c =
    let v = c.args.discount in
    let q = c.nearest_below.result in
    ap answered_rate (minus-back (4 * q) (omega (arith, below-fits c)) ∙ sym (rate-below v q (omega arith) c.nearest_below.ensures))
    ∙ sym (answer-known v (sym c.is_discount.ensures ∙ c.if-not-is_discount.false))

pub overflow_mul-result-2 : goal.overflow_mul-result-2
overflow_mul-result-2 c = omega (arith, above-fits c)

pub overflow_cast-result-2 : goal.overflow_cast-result-2
overflow_cast-result-2 c = record { sfits = omega (arith, above-fits c) }

pub returns : goal.returns
returns c =
    let v = c.args.discount in
    let q = c.nearest_above.result in
    ap answered_rate (to_z_pos w64 (omega (arith, above-fits c)) ∙ sym (rate-above v q (omega arith) c.nearest_above.ensures))
    ∙ sym (answer-known v (sym c.is_discount.ensures ∙ c.if-not-is_discount.false))
