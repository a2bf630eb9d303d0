-- Laws of numbers from a lowest to a highest.
-- Assumes nothing.
use mathlib.Core.Path.{◌≡◌, refl}
use mathlib.Core.Bool.{Bool, true, false, ◌&&◌}
use Prim.Native.Nat.{ℕ, ◌≤◌, ◌<◌}
use native.Mathlib.Omega.{arith}
use lib.Dec.{leb}
use borrow.Author.Tests.{le-leb, lt-leb, leb-true}
use Rattle.arithmetic.specs.Row.{between}

pub and-false : (a : Bool) → (a && false) ≡ false
and-false true = refl
and-false false = refl

pub and_left : (p q : Bool) → (p && q) ≡ true → p ≡ true
and_left true q e = refl
and_left false q e = e

pub and_right : (p q : Bool) → (p && q) ≡ true → q ≡ true
and_right true q e = e
and_right false q e = let z : ◌≡◌ {A = ℕ} 0 1 = cc in absurd (omega arith)

module _ (low high : ℕ) (f : ℕ → ℕ) (k : ℕ) where
  pub between-holds : low ≤ f k → f k ≤ high → between low high f k ≡ true
  between-holds h l = rw (le-leb low (f k) h, le-leb (f k) high l)

  pub between-below : f k < low → between low high f k ≡ false
  between-below h = rw (lt-leb low (f k) h)

  pub between-above : high < f k → between low high f k ≡ false
  between-above h = rw (lt-leb (f k) high h) (and-false (leb low (f k)))

  pub between-least : between low high f k ≡ true → low ≤ f k
  between-least e = leb-true low (f k) (and_left (leb low (f k)) (leb (f k) high) e)

  pub between-most : between low high f k ≡ true → f k ≤ high
  between-most e = leb-true (f k) high (and_right (leb low (f k)) (leb (f k) high) e)
