-- What the tests of limits say.
-- Assumes nothing.
use mathlib.Core.Path.{◌≡◌, refl, sym, ◌∙◌}
use mathlib.Core.Bool.{Bool, true, false, cond, ◌&&◌}
use Prim.Native.Nat.{ℕ, ◌≤◌, ◌<◌}
use native.Mathlib.Omega.{arith}
use lib.Dec.{leb}
use borrow.Author.Tests.{le-leb, lt-leb, lt-ltb, le-ltb, leb-true}
use Rattle.arithmetic.proofs.Numbers.{by_order}
use Rattle.arithmetic.proofs.BetweenLaws.{and_left, and_right, between-holds, between-below, between-above}
use Rattle.limits.specs.Limits.{most_steps, most_reversion, most_discount, value_limit, is_steps, is_reversion, is_discount, shape_cause, limit_cause}

-- a test that starts from 1
module _ (most n : ℕ) where
  pub from-one-none : n < 1 → (leb 1 n && leb n most) ≡ false
  from-one-none h = between-below 1 most (λ (k : ℕ). k) n h

  pub from-one-above : most < n → (leb 1 n && leb n most) ≡ false
  from-one-above h = between-above 1 most (λ (k : ℕ). k) n h

  pub from-one-holds : 1 ≤ n → n ≤ most → (leb 1 n && leb n most) ≡ true
  from-one-holds h l = between-holds 1 most (λ (k : ℕ). k) n h l

  pub from-one-rest : 1 ≤ n → (leb 1 n && leb n most) ≡ leb n most
  from-one-rest h = rw (le-leb 1 n h)

  pub from_one : (leb 1 n && leb n most) ≡ true → (1 ≤ n) × (n ≤ most)
  from_one e = (leb-true 1 n (and_left (leb 1 n) (leb n most) e), leb-true n most (and_right (leb 1 n) (leb n most) e))

cause-steps : (p q : Bool) → p ≡ false → ◌≡◌ {A = ℕ} 3 (cond p (cond q 0 4) 3)
cause-steps true q e = let z : ◌≡◌ {A = ℕ} 0 1 = cc in absurd (omega arith)
cause-steps false q e = refl

cause-none : (p q : Bool) → ◌≡◌ {A = ℕ} (cond p (cond q 0 4) 3) 0 → (p ≡ true) × (q ≡ true)
cause-none true true e = (refl, refl)
cause-none true false e = absurd (omega arith)
cause-none false q e = absurd (omega arith)

module _ (n b : ℕ) where
  pub shape-steps : is_steps n ≡ false → 3 ≡ shape_cause n b
  unfolding shape_cause
  shape-steps e = cause-steps (is_steps n) (is_reversion b) e

  module _ (known : is_steps n ≡ true) where
    pub shape-reversion : is_reversion b ≡ false → 4 ≡ shape_cause n b
    unfolding shape_cause
    shape-reversion e = sym (rw (known, e))

    pub shape-none : is_reversion b ≡ true → 0 ≡ shape_cause n b
    unfolding shape_cause
    shape-none e = sym (rw (known, e))

  -- the same by the numbers
  pub shape-empty : n ≡ 0 → shape_cause n b ≡ 3
  shape-empty z = sym (shape-steps (from-one-none most_steps n (omega arith)))

  pub shape-long : most_steps < n → shape_cause n b ≡ 3
  shape-long h = sym (shape-steps (from-one-above most_steps n h))

  module _ (some : 0 < n) (few : n ≤ most_steps) where
    pub shape-steep : most_reversion < b → shape_cause n b ≡ 4
    shape-steep h = sym (shape-reversion (from-one-holds most_steps n some few) (lt-leb b most_reversion h))

    pub shape-found : b ≤ most_reversion → shape_cause n b ≡ 0
    shape-found h = sym (shape-none (from-one-holds most_steps n some few) (le-leb b most_reversion h))

  -- no cause: both numbers are within their limits
  pub shape-accepted : shape_cause n b ≡ 0 → (0 < n) × (n ≤ most_steps) × (b ≤ most_reversion)
  unfolding shape_cause
  shape-accepted e =
      let c = cause-none (is_steps n) (is_reversion b) e in
      let s = from_one most_steps n c.0 in
      (s.0, s.1, leb-true b most_reversion c.1)

-- a node discount and its limits
module _ (v : ℕ) (e : is_discount v ≡ true) where
  pub discount-least : 1 ≤ v
  discount-least = (from_one most_discount v e).0

  pub discount-most : v ≤ most_discount
  discount-most = (from_one most_discount v e).1

-- a value and its limit
module _ (v : ℕ) where
  pub limit-above : value_limit < v → 12 ≡ limit_cause v
  unfolding limit_cause
  limit-above h = sym (rw (lt-ltb value_limit v h))

  pub limit-kept : v ≤ value_limit → 0 ≡ limit_cause v
  unfolding limit_cause
  limit-kept h = sym (rw (le-ltb value_limit v h))

  pub limit-accepted : limit_cause v ≡ 0 → v ≤ value_limit
  limit-accepted e = by_order v value_limit (λ h. h) (λ h. absurd (none (limit-above h ∙ e)))
    where
      none : ◌≡◌ {A = ℕ} 12 0 → ⊥
      none z = omega arith
