-- Laws of rows in memory and of tests of every index.
-- Assumes nothing.
use mathlib.Core.Path.{◌≡◌, refl, sym, ◌∙◌, ap}
use mathlib.Core.Bool.{Bool, true, false, ◌&&◌, and-true, and_assoc}
use mathlib.Core.List.{List}
use mathlib.Core.Logic.{◌⊎◌, inl, inr, ⊎_elim}
use Prim.Native.Nat.{ℕ, zero, suc, ◌+◌, ◌-◌, ◌*◌, ◌≤◌, ◌<◌}
use native.Mathlib.Numerals.{add-one}
use native.Mathlib.Nat.{not-suc-le-zero, le_of_suc-le-suc, eq-or-lt_of_le, lt_of_not-le, add-zero, add-suc}
use native.Mathlib.Decide.{dec_le}
use native.Mathlib.Omega.{arith}
use lib.ListN.{length, get_or, set, length-set, replicate}
use lib.Seq.{ext_get_or, get_or-set_same, get_or-set_other}
use Rattle.arithmetic.specs.Sum.{sum, only}
use Rattle.arithmetic.specs.Row.{row, values, each}
use Rattle.arithmetic.proofs.SumLaws.{sum-cong, only_same, only-other}
use Rattle.arithmetic.proofs.Implied.{Implied, lastly, ◌▸◌}

pub length-row : (n : ℕ) (f : ℕ → ℕ) → length (row n f) ≡ n
unfolding row
length-row zero f = refl
length-row (suc n) f = ap suc (length-row n (λ k. f (suc k)))

pub values-row : (n k : ℕ) (f : ℕ → ℕ) → k < n → values (row n f) k ≡ f k
unfolding row
values-row zero k f h = absurd (not-suc-le-zero h)
values-row (suc n) zero f h = refl
values-row (suc n) (suc k) f h = values-row n k (λ i. f (suc i)) (le_of_suc-le-suc h)

-- a list of n values that are those of f
pub row_of : (l : List ℕ) (n : ℕ) (f : ℕ → ℕ) → length l ≡ n → ((k : ℕ) → k < n → values l k ≡ f k) → l ≡ row n f
row_of l n f e h =
    ext_get_or 0 l (row n f) (e ∙ sym (length-row n f))
    (λ k i. let i' : k < n = rw e at i in h k i' ∙ sym (values-row n k f i'))

-- A row being filled from its start: i places of l hold f, and the others what they held in l₀.
pub record Filled (l₀ l : List ℕ) (f : ℕ → ℕ) (i : ℕ) : Type 0 where
  pub same : length l ≡ length l₀
  pub done : (j : ℕ) → j < i → values l j ≡ f j
  pub rest : (j : ℕ) → i ≤ j → values l j ≡ values l₀ j

pub filled-start : (l : List ℕ) (f : ℕ → ℕ) → Filled l l f 0
filled-start l f = record { same = refl; done = λ j h. absurd (not-suc-le-zero h); rest = λ j h. refl }

pub filled_next :
    {l₀ l : List ℕ} {f : ℕ → ℕ} {i x : ℕ} → Filled l₀ l f i → i < length l → x ≡ f i → Filled l₀ (set l i x) f (i + 1)
filled_next {l} {f} {i} {x} s h e =
    record {
      same = length-set l i x ∙ s.same;
      done = λ j b. go j b (eq-or-lt_of_le (before j b));
      rest = λ j b. get_or-set_other l i j x 0 (λ n. apart j b n) ∙ s.rest j (omega arith);
    }
  where
    before : (j : ℕ) → j < i + 1 → j ≤ i
    before j b = omega arith

    apart : (j : ℕ) → i + 1 ≤ j → j ≡ i → ⊥
    apart j b n = omega arith

    go : (j : ℕ) → j < i + 1 → (j ≡ i) ⊎ (j < i) → values (set l i x) j ≡ f j
    go j b (inl n) = rw n (get_or-set_same l i x 0 h ∙ e)
    go j b (inr n) = get_or-set_other l i j x 0 (λ m. below_apart j n m) ∙ s.done j n
      where
        below_apart : (j : ℕ) → j < i → j ≡ i → ⊥
        below_apart j n m = omega arith

pub filled-all : (l₀ l : List ℕ) (f : ℕ → ℕ) (i : ℕ) → Filled l₀ l f i → i ≡ length l₀ → l ≡ row (length l₀) f
filled-all l₀ l f i s e = row_of l (length l₀) f s.same (λ k h. s.done k (rw e h))

-- three ways for two places to stand
pub lt-or-eq : (a j : ℕ) → (a ≡ j) ⊎ ((a < j) ⊎ (j < a))
lt-or-eq a j = first (dec_le a j)
  where
    second : (a ≡ j) ⊎ (a < j) → (a ≡ j) ⊎ ((a < j) ⊎ (j < a))
    second (inl e) = inl e
    second (inr d) = inr (inl d)

    first : Dec (a ≤ j) → (a ≡ j) ⊎ ((a < j) ⊎ (j < a))
    first (yes h) = second (eq-or-lt_of_le h)
    first (no n) = inr (inr (lt_of_not-le n))

-- A row being filled from its middle place w outwards: the places nearer than d hold f.
pub record Around (w : ℕ) (f : ℕ → ℕ) (l₀ l : List ℕ) (d : ℕ) : Type 0 where
  pub same : length l ≡ length l₀
  pub done : (k : ℕ) → w < k + d → k < w + d → values l k ≡ f k

pub around-start : (w : ℕ) (f : ℕ → ℕ) (l : List ℕ) → Around w f l l 0
around-start w f l = record { same = refl; done = λ k p q. omega arith }

pub around-next :
    {w : ℕ} {f : ℕ → ℕ} {l₀ l : List ℕ} {d x y : ℕ} → Around w f l₀ l d → d ≤ w → w + d < length l → (0 < d → x ≡ f (w - d)) → y ≡ f (w + d)
    → Around w f l₀ (set (set l (w - d) x) (w + d) y) (d + 1)
around-next {w} {f} {l} {d} {x} {y} s near room low high =
    record {
      same = length-set (set l (w - d) x) (w + d) y ∙ (length-set l (w - d) x ∙ s.same);
      done = λ k p q. upper k p q (eq-or-lt_of_le (within k q));
    }
  where
    within : (k : ℕ) → k < w + (d + 1) → k ≤ w + d
    within k q = omega arith

    lower : (k : ℕ) → w < k + (d + 1) → k < w + d → (w - d ≡ k) ⊎ ((w - d < k) ⊎ (k < w - d)) → values (set l (w - d) x) k ≡ f k
    lower k p q (inl e) = rw (← e) (get_or-set_same l (w - d) x 0 (omega arith) ∙ low (omega arith))
    lower k p q (inr (inl m)) = get_or-set_other l (w - d) k x 0 (λ n. omega arith) ∙ s.done k (omega arith) q
    lower k p q (inr (inr m)) = omega arith

    upper : (k : ℕ) → w < k + (d + 1) → k < w + (d + 1) → (k ≡ w + d) ⊎ (k < w + d) → values (set (set l (w - d) x) (w + d) y) k ≡ f k
    upper k p q (inl e) = rw e (get_or-set_same (set l (w - d) x) (w + d) y 0 (rw (length-set l (w - d) x) room) ∙ high)
    upper k p q (inr m) = get_or-set_other (set l (w - d) x) (w + d) k y 0 (λ n. omega arith) ∙ lower k p m (lt-or-eq (w - d) k)

pub around-all :
    {w : ℕ} {f : ℕ → ℕ} {l₀ l : List ℕ} {d : ℕ} → Around w f l₀ l d → w < d → length l₀ ≡ 2 * w + 1 → l ≡ row (length l₀) f
around-all {f} {l₀} {l} s past long = row_of l (length l₀) f s.same (λ k h. s.done k (omega arith) (omega arith))

-- adding an amount at one place
pub set-only :
    (l : List ℕ) (a x : ℕ) → a < length l → set l a (values l a + x) ≡ row (length l) (λ j. values l j + only a j x)
set-only l a x h =
    row_of (set l a (values l a + x)) (length l) (λ j. values l j + only a j x) (length-set l a (values l a + x))
    (λ j i. go j (lt-or-eq a j))
  where
    apart_low : (j : ℕ) → j < a → j ≡ a → ⊥
    apart_low j d e = omega arith

    apart-high : (j : ℕ) → a < j → j ≡ a → ⊥
    apart-high j d e = omega arith

    go : (j : ℕ) → (a ≡ j) ⊎ ((a < j) ⊎ (j < a)) → values (set l a (values l a + x)) j ≡ values l j + only a j x
    go j (inl e) = rw (← e) (get_or-set_same l a (values l a + x) 0 h ∙ ap (λ (y : ℕ). values l a + y) (sym (only_same a x)))
    go j (inr (inl d)) =
        get_or-set_other l a j (values l a + x) 0 (apart-high j d)
        ∙ (sym (add-zero (values l j)) ∙ ap (λ (y : ℕ). values l j + y) (sym (only-other a j x (inl d))))
    go j (inr (inr d)) =
        get_or-set_other l a j (values l a + x) 0 (apart_low j d)
        ∙ (sym (add-zero (values l j)) ∙ ap (λ (y : ℕ). values l j + y) (sym (only-other a j x (inr d))))

-- rows of equal values are equal
pub row-cong : (n : ℕ) (f g : ℕ → ℕ) → ((k : ℕ) → k < n → f k ≡ g k) → row n f ≡ row n g
row-cong n f g h = row_of (row n f) n g (length-row n f) (λ k i. values-row n k f i ∙ h k i)

-- what adding at one place gives, by length and by value
pub added-length : (l l' : List ℕ) (a x : ℕ) → l' ≡ row (length l) (λ j. values l j + only a j x) → length l' ≡ length l
added-length l l' a x e = ap length e ∙ length-row (length l) (λ j. values l j + only a j x)

pub added-value :
    (l l' : List ℕ) (a x : ℕ) → l' ≡ row (length l) (λ j. values l j + only a j x) → (j : ℕ) → j < length l →
    values l' j ≡ values l j + only a j x
added-value l l' a x e j h = ap (λ (m : List ℕ). values m j) e ∙ values-row (length l) j (λ j. values l j + only a j x) h

-- three additions in a row
pub added-thrice :
    (l : List ℕ) {l₁ l₂ l₃ : List ℕ} {a b c x y z : ℕ} → Implied (a ▸ b ▸ c ▸ x ▸ y ▸ lastly z) →
    l₁ ≡ row (length l) (λ j. values l j + only a j x) →
    l₂ ≡ row (length l₁) (λ j. values l₁ j + only b j y) →
    l₃ ≡ row (length l₂) (λ j. values l₂ j + only c j z) →
    l₃ ≡ row (length l) (λ j. values l j + (only a j x + only b j y + only c j z))
added-thrice l {l₁} {l₂} {l₃} {a} {b} {c} {x} {y} {z} _ e₁ e₂ e₃ =
    let n₁ = added-length l l₁ a x e₁ in
    let n₂ = added-length l₁ l₂ b y e₂ in
    let n₃ = added-length l₂ l₃ c z e₃ in
    row_of l₃ (length l) (λ j. values l j + (only a j x + only b j y + only c j z)) (n₃ ∙ (n₂ ∙ n₁))
    (λ j h.
    let h₁ : j < length l₁ = omega arith in
    let h₂ : j < length l₂ = omega arith in
    omega (arith, added-value l l₁ a x e₁ j h, added-value l₁ l₂ b y e₂ j h₁, added-value l₂ l₃ c z e₃ j h₂))

pub each_none : (p : ℕ → Bool) → each 0 p ≡ true
unfolding each
each_none p = refl

pub each_more : (n : ℕ) (p : ℕ → Bool) → each n p ≡ true → p n ≡ true → each (n + 1) p ≡ true
unfolding each
each_more n p a b = rw (add-one n, a, b)

-- a test that holds of each number below n
pub each_all : (n : ℕ) (p : ℕ → Bool) → ((k : ℕ) → k < n → p k ≡ true) → each n p ≡ true
each_all zero p h = each_none p
each_all (suc n) p h = rw (← add-one n) (each_more n p (each_all n p (λ k l. h k (omega arith))) (h n (omega arith)))

pub each-fails : (n k : ℕ) (p : ℕ → Bool) → k < n → p k ≡ false → each n p ≡ false
unfolding each
each-fails zero k p h e = absurd (none h)
  where
    none : k < 0 → ⊥
    none g = omega arith
each-fails (suc n) k p h e = ⊎_elim last (λ g. earlier (each-fails n k p g e)) (eq-or-lt_of_le (le_of_suc-le-suc h))
  where
    either : (b : Bool) → (b && false) ≡ false
    either true = refl
    either false = refl

    last : k ≡ n → (each n p && p n) ≡ false
    last q = ap (λ (j : ℕ). each n p && p j) (sym q) ∙ ap (λ (b : Bool). each n p && b) e ∙ either (each n p)

    earlier : each n p ≡ false → (each n p && p n) ≡ false
    earlier q = ap (λ (b : Bool). b && p n) q

pub zeros : (n k : ℕ) → get_or {A = ℕ} (replicate n 0) k 0 ≡ 0
zeros zero k = refl
zeros (suc n) zero = refl
zeros (suc n) (suc k) = zeros n k

-- a test that holds of each number holds of one of them
pub each_holds : (n k : ℕ) (p : ℕ → Bool) → each n p ≡ true → k < n → p k ≡ true
each_holds n k p e h = go (p k) refl
  where
    both : each n p ≡ true → each n p ≡ false → ⊥
    both a b = let z : ◌≡◌ {A = ℕ} 0 1 = cc in omega arith

    go : (t : Bool) → p k ≡ t → t ≡ true
    go true f = refl
    go false f = absurd (both e (each-fails n k p h f))

pub each-cong : (n : ℕ) (p r : ℕ → Bool) → ((k : ℕ) → k < n → p k ≡ r k) → each n p ≡ each n r
unfolding each
each-cong zero p r h = refl
each-cong (suc n) p r h = rw (each-cong n p r (λ k l. h k (omega arith)), h n (omega arith))

-- a test of every index, split at an index
pub each-split : (n m : ℕ) (test : ℕ → Bool) → each (n + m) test ≡ each n test && each m (λ k. test (n + k))
unfolding each
each-split n zero test = rw (add-zero n) (sym (and-true (each n test)))
each-split n (suc m) test =
    rw (add-suc n m, each-split n m test) (and_assoc (each n test) (each m (λ k. test (n + k))) (test (n + m)))

-- the sum of a row's values
pub sum_row : (n : ℕ) (f : ℕ → ℕ) → sum (length (row n f)) (values (row n f)) ≡ sum n f
sum_row n f = ap (λ (k : ℕ). sum k (values (row n f))) (length-row n f) ∙ sum-cong n (values (row n f)) f (λ k h. values-row n k f h)
