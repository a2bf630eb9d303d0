-- The candidates in their order, what names the continuous rate, and the side on which it stands.
-- Assumes nothing.
use mathlib.Core.Path.{◌≡◌, refl, sym, ◌∙◌, ap, subst}
use mathlib.Core.Bool.{Bool, true, false}
use mathlib.Core.Logic.{◌⊎◌, inl, inr, ⊎_elim}
use Prim.Native.Nat.{ℕ, zero, suc, ◌+◌, ◌*◌, ◌/◌, ◌%◌, ◌≤◌, ◌<◌}
use native.Mathlib.Nat.{le_antisymm, not-le_of_lt, lt_of_not-le, le_of_suc-le-suc}
use native.Mathlib.Omega.{arith}
use lib.Dec.{T, le→leb, leb→le}
use lib.IntN.{ℤ, pos, negsuc, neg_ℤ, nat_abs}
use lib.Signed.{le_z}
use Rattle.arithmetic.specs.Rounding.{one, round_down}
use Rattle.continuous.specs.Continuous.{amount_limit, side_discount, continuous_discount}
use Rattle.continuous.proofs.Sides.{above_most, below-least, at_zero}
use Rattle.continuous.proofs.Answers.{discount-above, discount-below}
use Rattle.continuous_rate.specs.Least.{first_least}
use Rattle.continuous_rate.specs.ContinuousRate.{distance, candidate, miss, continuous_rate, Nearest}
use Rattle.continuous_rate.specs.inside.Search.{side_miss}
use Rattle.continuous_rate.proofs.LeastLaws.{least-within, least-low, least_first, least-only}

-- the place of a candidate
unfoldable place : ℤ → ℕ
place (pos m) = 2 * m
place (negsuc m) = 2 * m + 1

candidate-even : (m : ℕ) → candidate (2 * m) ≡ pos m
unfolding candidate
candidate-even m =
    let e : 2 * m % 2 ≡ 0 = omega arith in
    let h : 2 * m / 2 ≡ m = omega arith in
    rw (e, h) refl

candidate-odd : (m : ℕ) → candidate (2 * m + 1) ≡ negsuc m
unfolding candidate
candidate-odd m =
    let e : (2 * m + 1) % 2 ≡ 1 = omega arith in
    let h : (2 * m + 1) / 2 ≡ m = omega arith in
    rw (e, h) refl

candidate-place : (y : ℤ) → candidate (place y) ≡ y
unfolding place
candidate-place (pos m) = candidate-even m
candidate-place (negsuc m) = candidate-odd m

-- every place is one of the two kinds
parity : (k : ℕ) → (k ≡ 2 * (k / 2)) ⊎ (k ≡ 2 * (k / 2) + 1)
parity k = go (k % 2) refl
  where
    go : (r : ℕ) → k % 2 ≡ r → (k ≡ 2 * (k / 2)) ⊎ (k ≡ 2 * (k / 2) + 1)
    go zero e = inl (omega arith)
    go (suc r) e = inr (omega arith)

by-candidate : (P : ℕ → Type 0) → ((m : ℕ) → P (2 * m)) → ((m : ℕ) → P (2 * m + 1)) → (k : ℕ) → P k
by-candidate P even odd k =
    ⊎_elim (λ e. subst P (sym e) (even (k / 2))) (λ e. subst P (sym e) (odd (k / 2))) (parity k)

place-candidate : (k : ℕ) → place (candidate k) ≡ k
unfolding place
place-candidate = by-candidate (λ k. place (candidate k) ≡ k) (λ m. rw (candidate-even m) refl) (λ m. rw (candidate-odd m) refl)

-- magnitude and place
place-size : (y : ℤ) → nat_abs y ≡ (place y + 1) / 2
unfolding place
place-size (pos m) = omega arith
place-size (negsuc m) = omega arith

place-most : (y : ℤ) → nat_abs y ≤ amount_limit → place y ≤ 2 * amount_limit
unfolding place
place-most (pos m) h = omega arith
place-most (negsuc m) h = omega arith

-- of two of one magnitude the smaller has the lower place
place-order : (y z : ℤ) → nat_abs z ≡ nat_abs y → place y ≤ place z → T (le_z y z)
unfolding place
place-order (pos m) (pos n) e h = le→leb m n (omega arith)
place-order (pos m) (negsuc n) e h = absurd (none e h)
  where
    none : suc n ≡ m → 2 * m ≤ 2 * n + 1 → ⊥
    none p q = omega arith
place-order (negsuc m) (pos n) e h = tt
place-order (negsuc m) (negsuc n) e h = le→leb n m (omega arith)

miss-place : (v : ℕ) (z : ℤ) → miss v (place z) ≡ distance (continuous_discount z) v
unfolding miss
miss-place v z = rw (candidate-place z) refl

-- the rate is as request (i) says,
pub rate-nearest : (v : ℕ) → Nearest v (continuous_rate v)
unfolding continuous_rate
rate-nearest v =
    record {
      within = omega (arith, place-size (candidate p), own, least-within (miss v) (2 * amount_limit));
      nearest = λ z h. omega (arith, here, miss-place v z, least-low (miss v) (2 * amount_limit) (place z) (place-most z h));
      least = λ z h e. omega (arith, place-size (candidate p), place-size z, lower z h e);
      smaller = λ z h e s. place-order (candidate p) z s (lower z h e);
    }
  where
    p : ℕ
    p = first_least (miss v) (2 * amount_limit)

    own : place (candidate p) ≡ p
    own = place-candidate p

    here : miss v p ≡ distance (continuous_discount (candidate p)) v
    here = ap (miss v) (sym own) ∙ miss-place v (candidate p)

    lower :
        (z : ℤ) → nat_abs z ≤ amount_limit → distance (continuous_discount z) v ≡ distance (continuous_discount (candidate p)) v →
        place (candidate p) ≤ place z
    lower z h e = rw own (le_of_suc-le-suc (lt_of_not-le earlier))
      where
        earlier : suc (place z) ≤ p → ⊥
        earlier g = not-le_of_lt (least_first (miss v) (2 * amount_limit) (place z) g) (omega (arith, here, miss-place v z, e))

-- and nothing else is
same-order : (y z : ℤ) → T (le_z y z) → T (le_z z y) → y ≡ z
same-order (pos m) (pos n) h g = ap pos (le_antisymm (leb→le m n h) (leb→le n m g))
same-order (pos m) (negsuc n) h g = absurd h
same-order (negsuc m) (pos n) h g = absurd g
same-order (negsuc m) (negsuc n) h g = ap negsuc (le_antisymm (leb→le m n g) (leb→le n m h))

nearest-only : (v : ℕ) (y z : ℤ) → Nearest v y → Nearest v z → y ≡ z
nearest-only v y z a b =
    let e : distance (continuous_discount z) v ≡ distance (continuous_discount y) v
    = le_antisymm (b.nearest y a.within) (a.nearest z b.within) in
    let s : nat_abs z ≡ nat_abs y = le_antisymm (b.least y a.within (sym e)) (a.least z b.within e) in
    same-order y z (a.smaller z b.within e s) (b.smaller y a.within (sym e) (sym s))

pub rate-only : (v : ℕ) (y : ℤ) → Nearest v y → y ≡ continuous_rate v
rate-only v y n = nearest-only v y (continuous_rate v) n (rate-nearest v)

-- ---- the two sides

nearer-above : (a b v : ℕ) → v ≤ b → b ≤ a → distance b v ≤ distance a v
unfolding distance
nearer-above a b v h g = omega arith

nearer-below : (a b v : ℕ) → b ≤ v → a ≤ b → distance b v ≤ distance a v
unfolding distance
nearer-below a b v h g = omega arith

miss-even : (v m : ℕ) → miss v (2 * m) ≡ side_miss v false (m / 4)
unfolding miss round_down
miss-even v m = rw (candidate-even m, discount-above m) refl

miss-odd : (v m : ℕ) → miss v (2 * m + 1) ≡ side_miss v true (suc m / 4)
unfolding miss round_down
miss-odd v m = rw (candidate-odd m, discount-below m) refl

-- The nearest quotient of one side, and the place p of its candidate.
module _ (v q p : ℕ) (below : Bool) (e : q ≡ first_least (side_miss v below) one) (here : miss v p ≡ side_miss v below q) where
  side-low : (j : ℕ) → j ≤ one → miss v p ≤ side_miss v below j
  side-low j l = rw (here, e) (least-low (side_miss v below) one j l)

  side-first : (j : ℕ) → j < q → miss v p < side_miss v below j
  side-first j l = rw (here, e) (least_first (side_miss v below) one j (rw e at l))

-- the other side is no nearer than 0, where both sides meet
below_other : (v m : ℕ) → v ≤ one → side_miss v false 0 ≤ miss v (2 * m + 1)
below_other v m h = rw (miss-odd v m, at_zero false) (nearer-above (side_discount (suc m / 4) true) one v h (below-least (suc m / 4)))

above_other : (v m : ℕ) → one ≤ v → m ≤ amount_limit → side_miss v true 0 ≤ miss v (2 * m)
above_other v m h l =
    rw (miss-even v m, at_zero true) (nearer-below (side_discount (m / 4) false) one v h (above_most (m / 4) (omega arith)))

-- a discount of at most one: four times the nearest quotient above 0
pub rate-above : (v q : ℕ) → v ≤ one → q ≡ first_least (side_miss v false) one → continuous_rate v ≡ pos (4 * q)
unfolding continuous_rate
rate-above v q h e =
    ap candidate (sym (least-only (miss v) (2 * amount_limit) p (omega (arith, most)) (by-candidate _ low-even low-odd) (by-candidate _ first-even first-odd)))
    ∙ candidate-even (4 * q)
  where
    p : ℕ
    p = 2 * (4 * q)

    most : q ≤ one
    most = rw e (least-within (side_miss v false) one)

    here : miss v p ≡ side_miss v false q
    here = let d : 4 * q / 4 ≡ q = omega arith in miss-even v (4 * q) ∙ rw d refl

    low-even : (m : ℕ) → 2 * m ≤ 2 * amount_limit → miss v p ≤ miss v (2 * m)
    low-even m l = omega (arith, miss-even v m, side-low v q p false e here (m / 4) (omega arith))

    low-odd : (m : ℕ) → 2 * m + 1 ≤ 2 * amount_limit → miss v p ≤ miss v (2 * m + 1)
    low-odd m l = omega (arith, below_other v m h, side-low v q p false e here 0 (omega arith))

    first-even : (m : ℕ) → 2 * m < p → miss v p < miss v (2 * m)
    first-even m l = omega (arith, miss-even v m, side-first v q p false e here (m / 4) (omega arith))

    first-odd : (m : ℕ) → 2 * m + 1 < p → miss v p < miss v (2 * m + 1)
    first-odd m l = omega (arith, below_other v m h, side-first v q p false e here 0 (omega arith))

-- a discount of at least one: four times the nearest quotient below 0, negated
module _ (v q p : ℕ) (h : one ≤ v) (e : q ≡ first_least (side_miss v true) one) (here : miss v p ≡ side_miss v true q) where
  low-even : (m : ℕ) → 2 * m ≤ 2 * amount_limit → miss v p ≤ miss v (2 * m)
  low-even m l = omega (arith, above_other v m h (omega arith), side-low v q p true e here 0 (omega arith))

  low-odd : (m : ℕ) → 2 * m + 1 ≤ 2 * amount_limit → miss v p ≤ miss v (2 * m + 1)
  low-odd m l = omega (arith, miss-odd v m, side-low v q p true e here (suc m / 4) (omega arith))

  first-even : (m : ℕ) → 0 < q → m ≤ amount_limit → miss v p < miss v (2 * m)
  first-even m l k = omega (arith, above_other v m h k, side-first v q p true e here 0 l)

  first-odd : (m : ℕ) → suc m < 4 * q → miss v p < miss v (2 * m + 1)
  first-odd m l = omega (arith, miss-odd v m, side-first v q p true e here (suc m / 4) (omega arith))

pub rate-below : (v q : ℕ) → one ≤ v → q ≡ first_least (side_miss v true) one → continuous_rate v ≡ neg_ℤ (pos (4 * q))
unfolding continuous_rate
rate-below v zero h e =
    ap candidate (sym (least-only (miss v) (2 * amount_limit) 0 (omega arith) (by-candidate _ (low-even v 0 0 h e here) (low-odd v 0 0 h e here)) none))
    ∙ candidate-even 0
  where
    here : miss v 0 ≡ side_miss v true 0
    here = miss-even v 0 ∙ rw (at_zero false, at_zero true) refl

    none : (k : ℕ) → k < 0 → miss v 0 < miss v k
    none k l = omega arith
rate-below v (suc r) h e =
    ap candidate (sym (least-only (miss v) (2 * amount_limit) p (omega (arith, most))
    (by-candidate _ (low-even v (suc r) p h e here) (low-odd v (suc r) p h e here)) (by-candidate _ before-even before-odd)))
    ∙ candidate-odd (4 * r + 3)
    ∙ rw size refl
  where
    p : ℕ
    p = 2 * (4 * r + 3) + 1

    size : 4 * suc r ≡ suc (4 * r + 3)
    size = omega arith

    most : suc r ≤ one
    most = rw e (least-within (side_miss v true) one)

    here : miss v p ≡ side_miss v true (suc r)
    here = let d : suc (4 * r + 3) / 4 ≡ suc r = omega arith in miss-odd v (4 * r + 3) ∙ rw d refl

    before-even : (m : ℕ) → 2 * m < p → miss v p < miss v (2 * m)
    before-even m l = first-even v (suc r) p h e here m (omega arith) (omega (arith, most))

    before-odd : (m : ℕ) → 2 * m + 1 < p → miss v p < miss v (2 * m + 1)
    before-odd m l = first-odd v (suc r) p h e here m (omega arith)
