use mathlib.Core.Path.{◌≡◌, sym, ◌∙◌, ap}
use mathlib.Core.Bool.{true}
use Prim.Native.Nat.{ℕ, ◌-◌, ◌*◌, ◌≤◌}
use native.Mathlib.Omega.{arith}
use lib.IntN.{pos, neg_ℤ}
use mir.Syntax.{w64}
use mir.Facts.{to_z_pos}
use Rattle.arithmetic.specs.Rounding.{one}
use Rattle.arithmetic.proofs.Signed.{minus-fits, minus-back}
use Rattle.limits.specs.Limits.{most_discount, is_discount}
use Rattle.limits.proofs.LimitLaws.{discount-least, discount-most}
use Rattle.step_rate.specs.StepRate.{answered_rate}
use Rattle.step_rate.proofs.RateLaws.{ratio-small, rate-above, rate-within, answer-refused, answer-known}
use Rattle.step_rate.proofs.of_discount.Goals as goal
use Rattle.step_rate.proofs.of_discount.Goals.{After-ratio, After-ratio-2}

pub returns-then-not-is_discount : goal.returns-then-not-is_discount
returns-then-not-is_discount c = sym (answer-refused c.args.discount (sym c.is_discount.ensures ∙ c.if-not-is_discount.true))

known : (v : ℕ) → is_discount v ≡ true → (1 ≤ v) × (v ≤ most_discount)
known v a = (discount-least v a, discount-most v a)

pub ratio-requires : goal.ratio-requires
ratio-requires c = let k = known c.args.discount (sym c.is_discount.ensures ∙ c.if-not-is_discount.false) in (omega arith, omega arith, omega arith)

above-small : (c : After-ratio) → c.ratio.result ≤ one * one
above-small c =
    let v = c.args.discount in
    let k = known c.args.discount (sym c.is_discount.ensures ∙ c.if-not-is_discount.false) in
    ratio-small c.ratio.result (v - one) v c.ratio.ensures (omega arith) (omega arith)

pub overflow_cast-result : goal.overflow_cast-result
overflow_cast-result c = record { sfits = omega (arith, above-small c) }

pub overflow_sub-result : goal.overflow_sub-result
overflow_sub-result c = minus-fits c.ratio.result (omega (arith, above-small c))

pub returns-then-discount-gt-ONE : goal.returns-then-discount-gt-ONE
returns-then-discount-gt-ONE c =
    let v = c.args.discount in
    let k = known c.args.discount (sym c.is_discount.ensures ∙ c.if-not-is_discount.false) in
    ap answered_rate
    (minus-back c.ratio.result (omega (arith, above-small c))
    ∙ ap (λ (m : ℕ). neg_ℤ (pos m)) c.ratio.ensures
    ∙ sym (rate-above v (omega arith) c.if-discount-gt-ONE.true))
    ∙ sym (answer-known v (omega arith) k.1)

pub ratio-requires-2 : goal.ratio-requires-2
ratio-requires-2 c = let k = known c.args.discount (sym c.is_discount.ensures ∙ c.if-not-is_discount.false) in (omega arith, omega arith, omega arith)

within-small : (c : After-ratio-2) → c.ratio-2.result ≤ one * one
within-small c =
    let v = c.args.discount in
    let k = known c.args.discount (sym c.is_discount.ensures ∙ c.if-not-is_discount.false) in
    ratio-small c.ratio-2.result (one - v) v c.ratio-2.ensures (omega arith) (omega arith)

pub overflow_cast-result-2 : goal.overflow_cast-result-2
overflow_cast-result-2 c = record { sfits = omega (arith, within-small c) }

pub returns : goal.returns
returns c =
    let v = c.args.discount in
    let k = known c.args.discount (sym c.is_discount.ensures ∙ c.if-not-is_discount.false) in
    ap answered_rate
    (to_z_pos w64 (omega (arith, within-small c))
    ∙ ap pos c.ratio-2.ensures
    ∙ sym (rate-within v (omega arith) c.if-discount-gt-ONE.false))
    ∙ sym (answer-known v (omega arith) k.1)
