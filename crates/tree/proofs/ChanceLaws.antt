-- The sums over branches, spelled out: down leads to the lowest of three neighbouring nodes, middle to the next, up to the highest.
-- Assumes nothing.
use mathlib.Core.Path.{◌≡◌, refl}
use Prim.Native.Nat.{ℕ, ◌+◌, ◌*◌, ◌<◌}
use native.Mathlib.Omega.{arith}
use borrow.Author.Tests.{eq-eqb, ne_eqb}
use Rattle.arithmetic.specs.Sum.{sum, only}
use Rattle.tree.specs.Tree.{Transition, chance, incoming, outgoing}

module _ (t : Transition) where
  pub leaving : (value : ℕ → ℕ) (k : ℕ) →
      outgoing t value k ≡ t.down k * value (t.low k) + t.middle k * value (t.low k + 1) + t.up k * value (t.low k + 2)
  unfolding outgoing
  leaving value k = refl

  pub entering : (n : ℕ) (amount : ℕ → ℕ) (j : ℕ) → incoming t n amount j ≡ sum n (λ k. chance t k j * amount k)
  unfolding incoming
  entering n amount j = refl

  pub chance-down : (k : ℕ) → chance t k (t.low k) ≡ t.down k
  unfolding chance only
  chance-down k =
      rw (eq-eqb (t.low k) (t.low k) refl, ne_eqb (t.low k + 1) (t.low k) (λ e. omega arith), ne_eqb (t.low k + 2) (t.low k) (λ e. omega arith))
      (omega arith)

  pub chance-middle : (k : ℕ) → chance t k (t.low k + 1) ≡ t.middle k
  unfolding chance only
  chance-middle k =
      rw (
        ne_eqb (t.low k) (t.low k + 1) (λ e. omega arith),
        eq-eqb (t.low k + 1) (t.low k + 1) refl,
        ne_eqb (t.low k + 2) (t.low k + 1) (λ e. omega arith),
      )
      (omega arith)

  pub chance-up : (k : ℕ) → chance t k (t.low k + 2) ≡ t.up k
  unfolding chance only
  chance-up k =
      rw (
        ne_eqb (t.low k) (t.low k + 2) (λ e. omega arith),
        ne_eqb (t.low k + 1) (t.low k + 2) (λ e. omega arith),
        eq-eqb (t.low k + 2) (t.low k + 2) refl,
      )
      (omega arith)

  pub chance-below : (k j : ℕ) → j < t.low k → chance t k j ≡ 0
  unfolding chance only
  chance-below k j h =
      rw (ne_eqb (t.low k) j (λ e. omega arith), ne_eqb (t.low k + 1) j (λ e. omega arith), ne_eqb (t.low k + 2) j (λ e. omega arith)) refl

  pub chance-above : (k j : ℕ) → t.low k + 2 < j → chance t k j ≡ 0
  unfolding chance only
  chance-above k j h =
      rw (ne_eqb (t.low k) j (λ e. omega arith), ne_eqb (t.low k + 1) j (λ e. omega arith), ne_eqb (t.low k + 2) j (λ e. omega arith)) refl
