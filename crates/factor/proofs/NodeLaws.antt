-- A node's signed number and its distance from the middle node, as an `i64` and a `u64` hold them.
-- Assumes nothing.
use mathlib.Core.Path.{◌≡◌, refl, sym, ◌∙◌, ap}
use mathlib.Core.Bool.{true, false}
use Prim.Native.Nat.{ℕ, suc, ◌+◌, ◌-◌, ◌^◌, ◌≤◌, ◌<◌}
use native.Mathlib.Omega.{arith}
use borrow.Author.Tests.{le-ltb, ltb-true}
use lib.Dec.{T, ltb}
use lib.IntN.{ℤ, pos, negsuc, nat_abs, ◌-ℤ◌}
use lib.Signed.{lt_z, non_neg}
use mir.Syntax.{w64}
use mir.Val.{Fits, SFits, to_z, of_z}
use mir.Facts.{to_z-of_z}
use Rattle.arithmetic.proofs.Signed.{fits-by-size, is_whole}
use Rattle.factor.specs.Factor.{node_answer, side_answer}
use Rattle.factor.proofs.FactorLaws.{node-side}

none_below : (n : ℕ) → ltb n 0 ≡ true → ⊥
none_below n l = let h : n < 0 = ltb-true n 0 l in omega arith

-- one node nearer to the middle: -1 less a number below zero
nearer : (z : ℤ) → lt_z z (pos 0) ≡ true → negsuc 0 -ℤ z ≡ pos (nat_abs z - 1)
nearer (pos n) l = absurd (none_below n l)
nearer (negsuc n) l = rw (le-ltb (suc n) 1 (omega arith)) refl

size-positive : (z : ℤ) → lt_z z (pos 0) ≡ true → 0 < nat_abs z
size-positive (pos n) l = absurd (none_below n l)
size-positive (negsuc n) l = omega arith

size-most : (z : ℤ) → SFits w64 z → nat_abs z ≤ 2 ^ 63
size-most (pos n) f = omega (arith, f.sfits)
size-most (negsuc n) f = omega (arith, f.sfits)

-- `z` is the number of which the code holds the bits
module _ (z : ℤ) (f : SFits w64 z) where
  held : to_z w64 (of_z w64 z) ≡ z
  held = to_z-of_z f

  -- below zero: one node nearer, and back
  module _ (l : lt_z (to_z w64 (of_z w64 z)) (pos 0) ≡ true) where
    below : lt_z z (pos 0) ≡ true
    below = rw held at l

    nearer-is : negsuc 0 -ℤ to_z w64 (of_z w64 z) ≡ pos (nat_abs z - 1)
    nearer-is = ap (λ (y : ℤ). negsuc 0 -ℤ y) held ∙ nearer z below

    pub nearer-less : nat_abs z - 1 < 2 ^ 63
    nearer-less = omega (arith, size-most z f, size-positive z below)

    pub nearer-fits : SFits w64 (negsuc 0 -ℤ to_z w64 (of_z w64 z))
    nearer-fits = rw nearer-is (fits-by-size (pos (nat_abs z - 1)) nearer-less)

    pub nearer-held : to_z w64 (of_z w64 (negsuc 0 -ℤ to_z w64 (of_z w64 z))) ≡ pos (nat_abs z - 1)
    nearer-held = to_z-of_z nearer-fits ∙ nearer-is

    pub node-below : (h : ℕ) → side_answer (nat_abs (pos (nat_abs z - 1)) + 1) true h ≡ node_answer z h
    node-below h =
        let e : nat_abs (pos (nat_abs z - 1)) + 1 ≡ nat_abs z = omega (arith, size-positive z below) in
        rw e (sym (rw below at (node-side z h)))

  -- zero and above
  module _ (l : lt_z (to_z w64 (of_z w64 z)) (pos 0) ≡ false) where
    pub whole-cast : T (non_neg (to_z w64 (of_z w64 z))) × Fits w64 (nat_abs (to_z w64 (of_z w64 z)))
    whole-cast =
        let n : lt_z z (pos 0) ≡ false = rw held at l in
        rw held (is_whole z n, record { fits = omega (arith, size-most z f) })

    pub node-above : (h : ℕ) → side_answer (nat_abs (to_z w64 (of_z w64 z))) false h ≡ node_answer z h
    node-above h =
        let n : lt_z z (pos 0) ≡ false = rw held at l in
        rw held (sym (rw n at (node-side z h)))
