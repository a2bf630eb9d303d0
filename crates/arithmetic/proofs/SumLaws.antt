-- Laws of the sum and of the greatest value of a row, for any count.
-- Assumes nothing.
use mathlib.Core.Path.{◌≡◌, refl, sym, ap, ◌∙◌}
use mathlib.Core.Bool.{Bool, true, false, cond}
use Prim.Native.Nat.{ℕ, zero, suc, ◌+◌, ◌-◌, ◌*◌, ◌/◌, ◌≤◌, ◌<◌, max}
use native.Mathlib.Nat.{not-suc-le-zero, eq-or-lt_of_le, le_of_suc-le-suc, le_refl, sub-add_cancel, add-suc, add-zero}
use native.Mathlib.Nat.{zero-mul, mul-le-mul_left, mul-div-le, lt-div-mul-add}
use lib.Arith.{le-zero}
use native.Mathlib.Numerals.{add-one}
use mathlib.Core.Logic.{◌⊎◌, inl, inr, ⊎_elim}
use native.Mathlib.Omega.{arith}
use lib.Dec.{eqb, T, eqb→eq, eqb_refl}
use Rattle.arithmetic.specs.Sum.{sum, greatest, only}

pub sum-cong : (n : ℕ) (f g : ℕ → ℕ) → ((k : ℕ) → k < n → f k ≡ g k) → sum n f ≡ sum n g
unfolding sum
sum-cong zero f g h = refl
sum-cong (suc n) f g h = omega (arith, sum-cong n f g (λ k l. h k (omega arith)), h n (omega arith))

pub sum-le : (n : ℕ) (f g : ℕ → ℕ) → ((k : ℕ) → k < n → f k ≤ g k) → sum n f ≤ sum n g
unfolding sum
sum-le zero f g h = omega arith
sum-le (suc n) f g h = omega (arith, sum-le n f g (λ k l. h k (omega arith)), h n (omega arith))

pub sum-add : (n : ℕ) (f g : ℕ → ℕ) → sum n (λ k. f k + g k) ≡ sum n f + sum n g
unfolding sum
sum-add zero f g = refl
sum-add (suc n) f g = omega (arith, sum-add n f g)

pub sum-scale : (n a : ℕ) (f : ℕ → ℕ) → sum n (λ k. a * f k) ≡ a * sum n f
unfolding sum
sum-scale zero a f = omega arith
sum-scale (suc n) a f = omega (arith, sum-scale n a f)

pub sum-const : (n a : ℕ) → sum n (λ k. a) ≡ n * a
unfolding sum
sum-const zero a = omega arith
sum-const (suc n) a = omega (arith, sum-const n a)

-- the order of two sums may be changed
pub sum-swap : (n m : ℕ) (f : ℕ → ℕ → ℕ) → sum m (λ j. sum n (λ k. f k j)) ≡ sum n (λ k. sum m (λ j. f k j))
unfolding sum
sum-swap zero m f = omega (arith, sum-const m 0)
sum-swap (suc n) m f = omega (arith, sum-swap n m f, sum-add m (λ j. sum n (λ k. f k j)) (λ j. f n j))

pub only_same : (a x : ℕ) → only a a x ≡ x
unfolding only
only_same a x = go (eqb a a) (eqb_refl a)
  where
    go : (b : Bool) → T b → cond b x 0 ≡ x
    go true t = refl
    go false t = absurd t

pub only-other : (a j x : ℕ) → (a < j) ⊎ (j < a) → only a j x ≡ 0
unfolding only
only-other a j x d = go (eqb a j) (λ t. eqb→eq a j t)
  where
    go : (b : Bool) → (T b → a ≡ j) → cond b x 0 ≡ 0
    go true t = let e : a ≡ j = t tt in absurd (⊎_elim (λ l. omega arith) (λ l. omega arith) d)
    go false t = refl

-- a sum of which the one term at a is not 0
sum-only-before : (n a x : ℕ) (v : ℕ → ℕ) → n ≤ a → sum n (λ j. only a j x * v j) ≡ 0
unfolding sum
sum-only-before zero a x v h = refl
sum-only-before (suc n) a x v h = rw (only-other a n x (inr h), sum-only-before n a x v (omega arith)) (omega arith)

pub sum-only : (n a x : ℕ) (v : ℕ → ℕ) → a < n → sum n (λ j. only a j x * v j) ≡ x * v a
unfolding sum
sum-only zero a x v h = absurd (not-suc-le-zero h)
sum-only (suc n) a x v h = go (λ l. sum-only n a x v l) (eq-or-lt_of_le h)
  where
    go :
        (a < n → sum n (λ j. only a j x * v j) ≡ x * v a) →
        (suc a ≡ suc n) ⊎ (suc a < suc n) →
        sum n (λ j. only a j x * v j) + only a n x * v n ≡ x * v a
    go ih (inl e) =
        let e' : n ≡ a = omega arith in
        rw e' (rw (only_same a x, sum-only-before a a x v (le_refl a)) (omega arith))
    go ih (inr l) =
        let l' : a < n = le_of_suc-le-suc l in
        rw (only-other a n x (inl l'), ih l') (omega arith)

-- the first k terms, and the term at k, are at most the sum
pub sum_grow : (n k : ℕ) (f : ℕ → ℕ) → k ≤ n → sum k f ≤ sum n f
unfolding sum
sum_grow zero k f h = rw (le-zero h) (le_refl _)
sum_grow (suc n) k f h = go (λ l. sum_grow n k f l) (eq-or-lt_of_le h)
  where
    go : (k ≤ n → sum k f ≤ sum n f) → (k ≡ suc n) ⊎ (k < suc n) → sum k f ≤ sum n f + f n
    go ih (inl e) = rw e (le_refl _)
    go ih (inr l) = omega (arith, ih (le_of_suc-le-suc l))

pub sum-suc : (k : ℕ) (f : ℕ → ℕ) → sum (suc k) f ≡ sum k f + f k
unfolding sum
sum-suc k f = refl

pub sum-term : (n k : ℕ) (f : ℕ → ℕ) → k < n → f k ≤ sum n f
sum-term n k f h = omega (arith, sum_grow n (suc k) f h, sum-suc k f)

-- rounding each term down loses less than one unit a term
pub sum-floor-le : (n d : ℕ) (f : ℕ → ℕ) → d * sum n (λ k. f k / d) ≤ sum n f
sum-floor-le n d f =
    omega (arith, sum-scale n d (λ k. f k / d), sum-le n (λ k. d * (f k / d)) f (λ k l. mul-div-le (f k) d))

pub sum-floor-ge : (n d : ℕ) (f : ℕ → ℕ) → zero < d → sum n f ≤ d * sum n (λ k. f k / d) + n * d
sum-floor-ge n d f h =
    omega (
      arith,
      sum-scale n d (λ k. f k / d),
      sum-add n (λ k. d * (f k / d)) (λ k. d),
      sum-const n d,
      sum-le n f (λ k. d * (f k / d) + d) (λ k l. omega (arith, lt-div-mul-add {a = f k} h)),
    )

-- weights: a bound on each value bounds the weighed sum
pub sum-weigh-le : (n g : ℕ) (f v : ℕ → ℕ) → ((k : ℕ) → k < n → v k ≤ g) → sum n (λ k. f k * v k) ≤ g * sum n f
sum-weigh-le n g f v h =
    omega (arith, sum-scale n g f, sum-le n (λ k. f k * v k) (λ k. g * f k) (λ k l. omega (arith, mul-le-mul_left (f k) (h k l))))

pub sum-weigh-ge : (n g : ℕ) (f v : ℕ → ℕ) → ((k : ℕ) → k < n → g ≤ v k) → g * sum n f ≤ sum n (λ k. f k * v k)
sum-weigh-ge n g f v h =
    omega (arith, sum-scale n g f, sum-le n (λ k. g * f k) (λ k. f k * v k) (λ k l. omega (arith, mul-le-mul_left (f k) (h k l))))

pub sum-single : (f : ℕ → ℕ) → sum 1 f ≡ f 0
unfolding sum
sum-single f = omega arith

-- the first term split off
pub sum-shift : (n : ℕ) (f : ℕ → ℕ) → sum (suc n) f ≡ f 0 + sum n (λ k. f (suc k))
unfolding sum
sum-shift zero f = omega arith
sum-shift (suc n) f = omega (arith, sum-shift n f)

-- one term more, in the code's terms
pub sum-next : (n : ℕ) (f : ℕ → ℕ) → sum (n + 1) f ≡ sum n f + f n
sum-next n f = rw (add-one n) (sum-suc n f)

-- terms of at most a
pub sum-most : (n a : ℕ) (f : ℕ → ℕ) → ((k : ℕ) → k < n → f k ≤ a) → sum n f ≤ n * a
sum-most n a f h = omega (arith, sum-const n a, sum-le n f (λ k. a) h)

-- a sum split at an index
pub sum-split : (n m : ℕ) (f : ℕ → ℕ) → sum (n + m) f ≡ sum n f + sum m (λ k. f (n + k))
unfolding sum
sum-split n zero f = rw (add-zero n) (omega arith)
sum-split n (suc m) f = rw (add-suc n m) (omega (arith, sum-split n m f))

-- a sum of differences that are not cut off
pub sum-sub : (n : ℕ) (f g : ℕ → ℕ) → ((k : ℕ) → k < n → g k ≤ f k) → sum n (λ k. f k - g k) + sum n g ≡ sum n f
sum-sub n f g h = sym (sum-add n (λ k. f k - g k) g) ∙ sum-cong n _ f (λ k l. sub-add_cancel (h k l))

pub only-times : (a j x c : ℕ) → only a j x * c ≡ only a j (x * c)
unfolding only
only-times a j x c = go (eqb a j)
  where
    go : (b : Bool) → cond b x 0 * c ≡ cond b (x * c) 0
    go true = refl
    go false = zero-mul c

pub only-most : (a j x : ℕ) → only a j x ≤ x
unfolding only
only-most a j x = go (eqb a j)
  where
    go : (b : Bool) → cond b x 0 ≤ x
    go true = le_refl x
    go false = omega arith

-- each of the first n values is at most the greatest
pub greatest-ge : (n : ℕ) (f : ℕ → ℕ) (k : ℕ) → k < n → f k ≤ greatest n f
unfolding greatest
greatest-ge zero f k h = omega arith
greatest-ge (suc n) f k h =
    ⊎_elim
    (λ e. let s : f k ≡ f n = ap f e in omega arith)
    (λ l. let s = greatest-ge n f k l in omega arith)
    (eq-or-lt_of_le (le_of_suc-le-suc h))

-- the greatest is at most what all of them are
pub greatest-le : (n : ℕ) (f : ℕ → ℕ) (g : ℕ) → ((k : ℕ) → k < n → f k ≤ g) → greatest n f ≤ g
unfolding greatest
greatest-le zero f g h = omega arith
greatest-le (suc n) f g h = omega (arith, greatest-le n f g (λ k l. h k (omega arith)), h n (omega arith))

pub greatest-cong : (n : ℕ) (f g : ℕ → ℕ) → ((k : ℕ) → k < n → f k ≡ g k) → greatest n f ≡ greatest n g
unfolding greatest
greatest-cong zero f g h = refl
greatest-cong (suc n) f g h = omega (arith, greatest-cong n f g (λ k l. h k (omega arith)), h n (omega arith))

pub greatest-none : (f : ℕ → ℕ) → greatest 0 f ≡ 0
unfolding greatest
greatest-none f = refl

-- one value more, in the code's terms
pub greatest-next : (n : ℕ) (f : ℕ → ℕ) → greatest (n + 1) f ≡ max (greatest n f) (f n)
unfolding greatest
greatest-next n f = rw (add-one n)
