-- Worked examples of the continuous rate (document 02, request (i)), by tests that antt computes.
-- Assumes nothing.
use mathlib.Core.Path.{◌≡◌, refl, sym, ◌∙◌, ap}
use mathlib.Core.Bool.{Bool, true, false}
use Prim.Native.Nat.{ℕ, ◌+◌, ◌-◌, ◌≤◌, ◌<◌}
use native.Mathlib.Nat.{le_refl, le_of_lt}
use native.Mathlib.Omega.{arith}
use borrow.Author.Tests.{leb-true, ltb-true}
use lib.Dec.{leb, ltb, lit≤}
use lib.IntN.{ℤ, pos, negsuc}
use Rattle.arithmetic.specs.Rounding.{one, round_down}
use Rattle.arithmetic.specs.Row.{each}
use Rattle.arithmetic.specs.Sum.{sum}
use Rattle.arithmetic.proofs.Numbers.{by_order, by_equal}
use Rattle.arithmetic.proofs.RowLaws.{each_holds}
use Rattle.limits.specs.Limits.{most_discount}
use Rattle.limits.proofs.LimitLaws.{from-one-holds}
use Rattle.step_rate.specs.StepRate.{refused_rate, answered_rate}
use Rattle.factor.specs.Series.{term, series}
use Rattle.continuous.specs.Continuous.{square_down, fourth_power, side_discount}
use Rattle.continuous.proofs.Sides.{hundred-lower, at_zero}
use Rattle.continuous_rate.specs.Least.{first_least}
use Rattle.continuous_rate.specs.ContinuousRate.{distance, continuous_rate, continuous_rate_answer}
use Rattle.continuous_rate.specs.inside.Search.{side_miss, window_miss, reach_of}
use Rattle.continuous_rate.proofs.LeastLaws.{least-only}
use Rattle.continuous_rate.proofs.Window.{FallsPast, RisesPast, above-window, below_stays, below-moves}
use Rattle.continuous_rate.proofs.Candidates.{rate-above, rate-below}
use Rattle.continuous_rate.proofs.RateLaws.{answer-known}

-- an accepted discount's answer is its rate
accepted : (v : ℕ) (y : ℤ) → 1 ≤ v → v ≤ most_discount → continuous_rate v ≡ y → continuous_rate_answer v ≡ answered_rate y
accepted v y l h e = answer-known v (from-one-holds most_discount v l h) ∙ ap answered_rate e

-- a test that holds of a number of quotients from a first one on
tested : (n from k : ℕ) (test : ℕ → Bool) → each n (λ i. test (from + i)) ≡ true → from ≤ k → k < from + n → test k ≡ true
tested n from k test t l h =
    let e : from + (k - from) ≡ k = omega arith in
    ap test (sym e) ∙ each_holds n (k - from) (λ i. test (from + i)) t (omega arith)

pub rate-of-nothing : continuous_rate_answer 0 ≡ refused_rate
unfolding continuous_rate_answer
rate-of-nothing = refl

pub rate-too-high : continuous_rate_answer 1100000001 ≡ refused_rate
unfolding continuous_rate_answer
rate-too-high = refl

-- ---- the lowest discount of all, 18,315,638, stands first at the quotient 999,999,997

lowest-here : side_discount 999999997 false ≡ 18315638
unfolding side_discount fourth_power square_down series sum term round_down
lowest-here = refl

higher-before : each 100 (λ k. ltb 18315638 (side_discount (999999897 + k) false)) ≡ true
unfolding each side_discount fourth_power square_down series sum term round_down
higher-before = refl

not-lower-after : each 4 (λ k. leb 18315638 (side_discount (999999997 + k) false)) ≡ true
unfolding each side_discount fourth_power square_down series sum term round_down
not-lower-after = refl

before : (k : ℕ) → k < 999999997 → 18315638 < side_discount k false
before k l =
    by_order (k + 100) 999999997
    (λ h. omega (arith, lowest-here, hundred-lower k 999999997 h (lit≤ tt)))
    (λ h. ltb-true 18315638 (side_discount k false)
    (tested 100 999999897 k (λ q. ltb 18315638 (side_discount q false)) higher-before (omega arith) (omega arith)))

nowhere-lower : (k : ℕ) → k ≤ one → 18315638 ≤ side_discount k false
nowhere-lower k l =
    by_order 999999997 k
    (λ h. leb-true 18315638 (side_discount k false)
    (tested 4 999999997 k (λ q. leb 18315638 (side_discount q false)) not-lower-after h (omega arith)))
    (λ h. le_of_lt (before k h))

-- so every discount up to it has the same rate
farther : (v a b : ℕ) → v ≤ a → a ≤ b → distance a v ≤ distance b v
unfolding distance
farther v a b h g = omega arith

much-farther : (v a b : ℕ) → v ≤ a → a < b → distance a v < distance b v
unfolding distance
much-farther v a b h g = omega arith

pub lowest-discounts : (v : ℕ) → 1 ≤ v → v ≤ 18315638 → continuous_rate_answer v ≡ answered_rate (pos 3999999988)
lowest-discounts v l h = accepted v _ l (omega arith) (rate-above v 999999997 (omega arith) quotient)
  where
    quotient : 999999997 ≡ first_least (side_miss v false) one
    quotient =
        least-only (side_miss v false) one 999999997 (lit≤ tt)
        (λ k i. rw lowest-here (farther v 18315638 (side_discount k false) h (nowhere-lower k i)))
        (λ k i. rw lowest-here (much-farther v 18315638 (side_discount k false) h (before k i)))

-- ---- where halving alone is wrong: 484,106,437 is passed at 181,362,621, and 181,362,620 is nearer

abbrev scanned : ℕ → ℕ
scanned = window_miss 484106437 181362602

passed : FallsPast 484106437 181362621
unfolding side_discount fourth_power square_down series sum term round_down
passed = record { top = lit≤ tt; passed = lit≤ tt; next = λ h. lit≤ tt }

near : 19 ≡ reach_of 181362621
unfolding reach_of
near = refl

scanned-best : scanned 18 ≡ 1
unfolding distance side_discount fourth_power square_down series sum term round_down
scanned-best = refl

scanned-first : each 18 (λ k. ltb 1 (scanned k)) ≡ true
unfolding each distance side_discount fourth_power square_down series sum term round_down
scanned-first = refl

scanned-low : each 40 (λ k. leb 1 (scanned k)) ≡ true
unfolding each distance side_discount fourth_power square_down series sum term round_down
scanned-low = refl

pub rate-by-scan : continuous_rate_answer 484106437 ≡ answered_rate (pos 725450480)
rate-by-scan = accepted 484106437 _ (lit≤ tt) (lit≤ tt) (rate-above 484106437 181362620 (lit≤ tt) (ap (λ (k : ℕ). 181362602 + k) here ∙ window))
  where
    here : 18 ≡ first_least scanned 39
    here =
        least-only scanned 39 18 (lit≤ tt)
        (λ k l. rw scanned-best (leb-true 1 _ (each_holds 40 k (λ i. leb 1 (scanned i)) scanned-low (omega arith))))
        (λ k l. rw scanned-best (ltb-true 1 _ (each_holds 18 k (λ i. ltb 1 (scanned i)) scanned-first l)))

    window : 181362602 + first_least scanned 39 ≡ first_least (side_miss 484106437 false) one
    window = above-window 484106437 181362621 19 181362602 39 passed near (omega arith) (lit≤ tt) (lit≤ tt) (λ h. lit≤ tt)

-- ---- about one

next-above : side_discount 1 false ≡ 999999996
unfolding side_discount fourth_power square_down series sum term round_down
next-above = refl

next-below : side_discount 1 true ≡ 1000000004
unfolding side_discount fourth_power square_down series sum term round_down
next-below = refl

later-above : each 100 (λ k. leb (side_discount (1 + k) false) 999999996) ≡ true
unfolding each side_discount fourth_power square_down series sum term round_down
later-above = refl

lower-later : (k : ℕ) → 1 ≤ k → k ≤ one → side_discount k false ≤ 999999996
lower-later k l h =
    by_order 101 k
    (λ g. omega (arith, next-above, hundred-lower 1 k g h))
    (λ g. leb-true (side_discount k false) 999999996 (tested 100 1 k (λ q. leb (side_discount q false) 999999996) later-above l (omega arith)))

-- 0 is as near as the next number, or nearer
tie-above : (v a : ℕ) → 999999998 ≤ v → v ≤ one → a ≤ 999999996 → distance one v ≤ distance a v
unfolding distance
tie-above v a l h g = omega arith

tie-below : (v : ℕ) → one ≤ v → v ≤ 1000000002 → distance one v ≤ distance 1000000004 v
unfolding distance
tie-below v l h = omega arith

zero-above : (v : ℕ) → 999999998 ≤ v → v ≤ one → 0 ≡ first_least (side_miss v false) one
zero-above v l h = least-only (side_miss v false) one 0 (omega arith) low (λ k i. omega arith)
  where
    low : (k : ℕ) → k ≤ one → side_miss v false 0 ≤ side_miss v false k
    low k i =
        by_equal k 0
        (λ (e : k ≡ 0). rw e (le_refl _))
        (λ n. rw (at_zero false) (tie-above v (side_discount k false) l h (lower-later k (omega arith) i)))

one-passed : (v : ℕ) → one ≤ v → v < 1000000004 → RisesPast v 0
one-passed v l h = record { inside = lit≤ tt; reached = omega (arith, at_zero true); next = omega (arith, next-below) }

zero-below : (v : ℕ) → one ≤ v → v ≤ 1000000002 → 0 ≡ first_least (side_miss v true) one
zero-below v l h = below_stays v 0 (one-passed v l (omega arith)) (rw (at_zero true, next-below) (tie-below v l h))

pub about-one : (v : ℕ) → 999999998 ≤ v → v ≤ 1000000002 → continuous_rate_answer v ≡ answered_rate (pos 0)
about-one v l h =
    accepted v (pos 0) (omega arith) (omega arith)
    (by_order v one
    (λ i. rate-above v 0 i (zero-above v l i))
    (λ i. rate-below v 0 (omega arith) (zero-below v (omega arith) h)))

first-beyond : distance 1000000004 1000000003 < distance one 1000000003
unfolding distance
first-beyond = lit≤ tt

pub first_below : continuous_rate_answer 1000000003 ≡ answered_rate (negsuc 3)
first_below =
    accepted 1000000003 (negsuc 3) (lit≤ tt) (lit≤ tt)
    (rate-below 1000000003 1 (lit≤ tt)
    (below-moves 1000000003 0 (one-passed 1000000003 (lit≤ tt) (lit≤ tt)) (rw (at_zero true, next-below) first-beyond)))
