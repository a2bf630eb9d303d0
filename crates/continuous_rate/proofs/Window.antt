-- The nearest quotient of either side stands near the one where the discounts pass v.
-- Assumes nothing.
use mathlib.Core.Path.{◌≡◌, sym, ◌∙◌, ap, subst}
use mathlib.Core.Bool.{true, false}
use Prim.Native.Nat.{ℕ, ◌+◌, ◌-◌, ◌≤◌, ◌<◌}
use native.Mathlib.Nat.{le_trans, le_refl, le_of_lt}
use native.Mathlib.Omega.{arith}
use borrow.Author.Tests.{le-leb, leb-true, leb-false}
use Rattle.arithmetic.specs.Rounding.{one}
use Rattle.arithmetic.proofs.Numbers.{by_order}
use Rattle.continuous.specs.Continuous.{side_discount}
use Rattle.limits.specs.Limits.{most_discount}
use Rattle.continuous.proofs.Sides.{next-higher, at_zero, below_end}
use Rattle.continuous_rate.specs.Least.{first_least}
use Rattle.continuous_rate.specs.ContinuousRate.{distance}
use Rattle.continuous_rate.specs.inside.Search.{side_miss, window_miss, before, reach_of, Passes}
use Rattle.continuous_rate.proofs.Near.{reach-low, reach-high}
use Rattle.continuous_rate.proofs.LeastLaws.{least-within, least-low, least_first, least-only, least-moves, least_stays}

-- of two discounts on one side of v, the farther one
farther-above : (a b v : ℕ) → v ≤ b → b < a → distance b v < distance a v
unfolding distance
farther-above a b v h g = omega arith

farther-below : (a b v : ℕ) → b ≤ v → a < b → distance b v < distance a v
unfolding distance
farther-below a b v h g = omega arith

-- ---- where the discounts pass v

-- above 0: at least v at the quotient q, and below v at the next one, where there is one
pub record FallsPast (v q : ℕ) : Type 0 where
  pub top : q ≤ one
  pub passed : v ≤ side_discount q false
  pub next : q < one → side_discount (q + 1) false < v

-- below 0: at most v at the quotient q, and above v at the next one
pub record RisesPast (v q : ℕ) : Type 0 where
  pub inside : q < one
  pub reached : side_discount q true ≤ v
  pub next : v < side_discount (q + 1) true

pub falls-past : (v q : ℕ) → Passes v false q → FallsPast v q
unfolding before
falls-past v q p =
    record {
      top = p.top;
      passed = leb-true v (side_discount q false) p.here;
      next = λ l. leb-false v (side_discount (q + 1) false) (p.next l);
    }

-- the last quotient's discount is above every node's
pub rises-past : (v q : ℕ) → v ≤ most_discount → Passes v true q → RisesPast v q
unfolding before
rises-past v q m p = record { inside = inside; reached = reached; next = leb-false (side_discount (q + 1) true) v (p.next inside) }
  where
    reached : side_discount q true ≤ v
    reached = leb-true (side_discount q true) v p.here

    inside : q < one
    inside = by_order one q (λ l. let e : q ≡ one = omega (arith, p.top) in absurd (none (rw e at reached))) (λ l. l)
      where
        none : side_discount one true ≤ v → ⊥
        none h = omega (arith, below_end)

-- and both sides start at one
pub starts-above : (v : ℕ) → v ≤ one → before v false 0 ≡ true
unfolding before
starts-above v l = le-leb v (side_discount 0 false) (omega (arith, at_zero false))

pub starts-below : (v : ℕ) → one ≤ v → before v true 0 ≡ true
unfolding before
starts-below v l = le-leb (side_discount 0 true) v (omega (arith, at_zero true))

-- ---- above 0: the quotients from so many before the passing one to one more after it, as far as there are such

module _ (v q r from count : ℕ) (crossing : FallsPast v q) (far : r ≡ reach_of q) (start : from ≡ q - r) (inside : q ≤ from + count)
    (fits : from + count ≤ one) (reach : from + count < one → q + r + 1 ≤ from + count) where
  abbrev best : ℕ
  best = from + first_least (window_miss v from) count

  best-most : best ≤ from + count
  best-most = omega (arith, least-within (window_miss v from) count)

  near : (k : ℕ) → from ≤ k → k ≤ from + count → side_miss v false best ≤ side_miss v false k
  near k l h =
      let e : from + (k - from) ≡ k = omega arith in
      subst (λ (x : ℕ). side_miss v false best ≤ side_miss v false x) e (least-low (window_miss v from) count (k - from) (omega arith))

  earlier : (k : ℕ) → k < from → side_miss v false best < side_miss v false k
  earlier k h =
      omega (
        arith,
        near q (omega arith) inside,
        farther-above (side_discount k false) (side_discount q false) v crossing.passed (reach-low q r far crossing.top k (omega arith)),
      )

  after : (k : ℕ) → k ≤ one → from + count < k → side_miss v false best < side_miss v false k
  after k l h =
      let room : q + r + 1 ≤ from + count = reach (omega arith) in
      let lower : side_discount (q + 1) false < v = crossing.next (omega arith) in
      omega (
        arith,
        near (q + 1) (omega arith) (omega arith),
        farther-below (side_discount k false) (side_discount (q + 1) false) v (le_of_lt lower) (reach-high q r far k (omega arith) l),
      )

  low : (k : ℕ) → k ≤ one → side_miss v false best ≤ side_miss v false k
  low k l = by_order from k (λ a. by_order k (from + count) (λ b. near k a b) (λ b. le_of_lt (after k l b))) (λ a. le_of_lt (earlier k a))

  first : (k : ℕ) → k < best → side_miss v false best < side_miss v false k
  first k l = by_order from k within (λ a. earlier k a)
    where
      within : from ≤ k → side_miss v false best < side_miss v false k
      within a =
          let e : from + (k - from) ≡ k = omega arith in
          subst (λ (x : ℕ). side_miss v false best < side_miss v false x) e (least_first (window_miss v from) count (k - from) (omega arith))

  pub above-window : from + first_least (window_miss v from) count ≡ first_least (side_miss v false) one
  above-window = least-only (side_miss v false) one best (le_trans best-most fits) low first

-- ---- below 0: one of two neighbours

higher-or-same : (p q : ℕ) → p ≤ q → side_discount p true ≤ side_discount q true
higher-or-same p q h = by_order q p (λ g. let e : p ≡ q = omega arith in rw e (le_refl _)) (λ g. omega (arith, next-higher p q g))

nearer-past : (a b v : ℕ) → v < b → b ≤ a → distance b v ≤ distance a v
unfolding distance
nearer-past a b v h g = omega arith

module _ (v q : ℕ) (crossing : RisesPast v q) where
  up_to : (k : ℕ) → k < q → side_miss v true q < side_miss v true k
  up_to k h = farther-below (side_discount k true) (side_discount q true) v crossing.reached (omega (arith, next-higher k q h))

  past : (k : ℕ) → q + 1 ≤ k → side_miss v true (q + 1) ≤ side_miss v true k
  past k h = nearer-past (side_discount k true) (side_discount (q + 1) true) v crossing.next (higher-or-same (q + 1) k h)

  pub below_stays : side_miss v true q ≤ side_miss v true (q + 1) → q ≡ first_least (side_miss v true) one
  below_stays h = least-only (side_miss v true) one q (le_of_lt crossing.inside) low up_to
    where
      low : (k : ℕ) → k ≤ one → side_miss v true q ≤ side_miss v true k
      low k l =
          by_order (q + 1) k
          (λ a. le_trans h (past k a))
          (λ a. by_order q k
          (λ b. let e : q ≡ k = omega arith in subst (λ (x : ℕ). side_miss v true q ≤ side_miss v true x) e (le_refl _))
          (λ b. le_of_lt (up_to k b)))

  pub below-moves : side_miss v true (q + 1) < side_miss v true q → q + 1 ≡ first_least (side_miss v true) one
  below-moves h = least-only (side_miss v true) one (q + 1) (omega (arith, crossing.inside)) low earlier
    where
      earlier : (k : ℕ) → k < q + 1 → side_miss v true (q + 1) < side_miss v true k
      earlier k l =
          by_order q k
          (λ a. let e : q ≡ k = omega arith in subst (λ (x : ℕ). side_miss v true (q + 1) < side_miss v true x) e h)
          (λ a. omega (arith, h, up_to k a))

      low : (k : ℕ) → k ≤ one → side_miss v true (q + 1) ≤ side_miss v true k
      low k l = by_order (q + 1) k (λ a. past k a) (λ a. le_of_lt (earlier k a))

-- ---- one more quotient of the scan

module _ (v from k : ℕ) {best least next : ℕ} (e : best ≡ from + first_least (window_miss v from) k) (l : least ≡ side_miss v false best)
    (n : next ≡ side_miss v false (from + (k + 1))) where
  held : least ≡ window_miss v from (first_least (window_miss v from) k)
  held = l ∙ ap (side_miss v false) e

  pub scan-moves : next < least → from + (k + 1) ≡ from + first_least (window_miss v from) (k + 1)
  scan-moves h = ap (λ (x : ℕ). from + x) (sym (least-moves (window_miss v from) k (omega (arith, n, held))))

  pub scan-stays : least ≤ next → best ≡ from + first_least (window_miss v from) (k + 1)
  scan-stays h = e ∙ ap (λ (x : ℕ). from + x) (sym (least_stays (window_miss v from) k (omega (arith, n, held))))
