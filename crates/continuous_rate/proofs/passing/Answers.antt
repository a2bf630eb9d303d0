use mathlib.Core.Path.{◌≡◌, sym, ◌∙◌}
use Prim.Native.Nat.{◌+◌}
use native.Mathlib.Omega.{arith}
use Rattle.continuous_rate.proofs.passing.Goals as goal

pub loop-high-init : goal.loop-high-init
loop-high-init c = (omega arith, omega arith, c.requires, λ h. let none : ⊥ = omega arith in absurd none)

pub is_before-requires : goal.is_before-requires
is_before-requires c = omega (arith, c.loop-high.invariant)

pub loop-high-preserved-then-is_before : goal.loop-high-preserved-then-is_before
loop-high-preserved-then-is_before c =
    let i = c.loop-high.invariant in
    (omega arith, omega arith, sym c.is_before.ensures ∙ c.if-is_before.true, i.3)

pub loop-high-preserved : goal.loop-high-preserved
loop-high-preserved c =
    let i = c.loop-high.invariant in
    (omega arith, omega arith, i.2, λ h. sym c.is_before.ensures ∙ c.if-is_before.false)

pub returns : goal.returns
returns c =
    let i = c.loop-high.invariant in
    let e : c.loop-high.high ≡ c.loop-high.low + 1 = omega (arith, i) in
    record { top = omega (arith, i); here = i.2; next = λ h. rw e at i.3 (omega arith) }
