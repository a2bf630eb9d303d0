use mathlib.Core.Path.{◌≡◌, sym, ◌∙◌, ap}
use Prim.Native.Nat.{ℕ, suc, pred, ◌+◌, ◌*◌, ◌-◌, ◌^◌}
use native.Mathlib.Nat.{suc-pred-eq_of_ne-zero}
use native.Mathlib.Omega.{arith}
use Rattle.arithmetic.specs.Rounding.{one, nearest}
use Rattle.figure.proofs.Patterns.{pattern-zero, pattern-later, field_of, digits_of}
use Rattle.figure.proofs.magnitude.Goals as goal

pub returns-then-field-eq0 : goal.returns-then-field-eq0
returns-then-field-eq0 c = c.scaled.ensures ∙ sym (pattern-zero c.before.before.args.bits c.before.if-field-eq0.true)

pub returns : goal.returns
returns c =
    let b : ℕ = c.before.before.args.bits in
    let e : field_of b ≡ suc (pred (field_of b)) = sym (suc-pred-eq_of_ne-zero c.before.if-field-eq0.false) in
    c.scaled-2.ensures
    ∙ ap (λ (x : ℕ). nearest ((digits_of b + 2 ^ 52) * one) (2 ^ (1075 - x))) e
    ∙ sym (pattern-later b (pred (field_of b)) e (omega arith))
