-- Differences of two natural numbers as whole numbers with a sign.
-- Assumes nothing.
use mathlib.Core.Path.{◌≡◌, sym, ap, ◌∙◌}
use Prim.Native.Nat.{ℕ, suc, ◌+◌, ◌-◌, ◌≤◌, ◌<◌}
use native.Mathlib.Omega.{arith}
use borrow.Author.Tests.{lt-ltb, le-ltb}
use lib.IntN.{ℤ, pos, negsuc, neg_ℤ, nat_abs, sub_ℕ, ◌+ℤ◌, ◌-ℤ◌, +ℤ_assoc, +ℤ_comm, neg_ℤ-+ℤ}
use Rattle.arithmetic.proofs.Numbers.{by_order}
use Rattle.lattice.proofs.Formulas.{pos-minus, neg-minus}

pub sub-high : (a b : ℕ) → b ≤ a → sub_ℕ a b ≡ pos (a - b)
sub-high a b h = rw (le-ltb a b h)

pub sub_low : (a b : ℕ) → a < b → sub_ℕ a b ≡ negsuc (b - suc a)
sub_low a b h = rw (lt-ltb a b h)

-- the same difference
pub sub_same : (a b c d : ℕ) → a + d ≡ c + b → sub_ℕ a b ≡ sub_ℕ c d
sub_same a b c d e =
    by_order b a
    (λ h. let x : a - b ≡ c - d = omega arith in sub-high a b h ∙ ap pos x ∙ sym (sub-high c d (omega arith)))
    (λ h. let x : b - suc a ≡ d - suc c = omega arith in sub_low a b h ∙ ap negsuc x ∙ sym (sub_low c d (omega arith)))

pub sub_is : (a b : ℕ) → sub_ℕ a b ≡ pos a +ℤ neg_ℤ (pos b)
sub_is a b =
    by_order b a
    (λ h. sub-high a b h ∙ sym (pos-minus a b h))
    (λ h. let x : b - a ≡ suc (b - suc a) = omega arith in
    sub_low a b h ∙ sym (neg-minus a b (omega arith) ∙ ap (λ (n : ℕ). neg_ℤ (pos n)) x))

pub sub-less : (a b c : ℕ) → sub_ℕ a b -ℤ pos c ≡ sub_ℕ a (b + c)
sub-less a b c =
    ap (λ (t : ℤ). t +ℤ neg_ℤ (pos c)) (sub_is a b)
    ∙ +ℤ_assoc (pos a) (neg_ℤ (pos b)) (neg_ℤ (pos c))
    ∙ ap (λ (t : ℤ). pos a +ℤ t) (sym (neg_ℤ-+ℤ (pos b) (pos c)))
    ∙ sym (sub_is a (b + c))

pub sub_more : (a b c : ℕ) → sub_ℕ a b +ℤ pos c ≡ sub_ℕ (a + c) b
sub_more a b c =
    ap (λ (t : ℤ). t +ℤ pos c) (sub_is a b)
    ∙ +ℤ_assoc (pos a) (neg_ℤ (pos b)) (pos c)
    ∙ ap (λ (t : ℤ). pos a +ℤ t) (+ℤ_comm (neg_ℤ (pos b)) (pos c))
    ∙ sym (+ℤ_assoc (pos a) (pos c) (neg_ℤ (pos b)))
    ∙ sym (sub_is (a + c) b)

pub sub-size : (a b : ℕ) → nat_abs (sub_ℕ a b) ≡ (a - b) + (b - a)
sub-size a b =
    by_order b a
    (λ h. ap nat_abs (sub-high a b h) ∙ omega arith)
    (λ h. ap nat_abs (sub_low a b h) ∙ omega arith)
