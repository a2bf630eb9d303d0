-- h is the greatest whole number with h² × f³ ≤ 3 × (1,000 s)², and the answers of the entry.
-- Assumes nothing.
use mathlib.Core.Path.{◌≡◌, refl, ap}
use mathlib.Core.Bool.{Bool, true, false, cond}
use mathlib.Core.Logic.{◌⊎◌, inl, inr}
use Prim.Native.Nat.{ℕ, zero, suc, ◌+◌, ◌*◌, ◌/◌, ◌≤◌, ◌<◌}
use native.Mathlib.Nat.{le_trans, le_antisymm, le_of_suc-le-suc, eq-or-lt_of_le, lt_of_not-le, not-le_of_lt}
use native.Mathlib.Nat.{mul-le-mul, mul-le-mul_left, mul-le-mul_right, mul-pos, le-div_iff_mul-le, div-lt_iff_lt-mul}
use native.Mathlib.Omega.{arith}
use borrow.Author.Tests.{lt-ltb, le-ltb}
use lib.Dec.{leb, T, leb→le, le→leb}
use Rattle.arithmetic.specs.Answers.{refused, answered}
use Rattle.arithmetic.specs.declared.Answer.{Answer}
use Rattle.arithmetic.proofs.Numbers.{by_order}
use Rattle.spacing.specs.Spacing.{greatest_passing, greatest_root, spacing, spacing_answer}
use Rattle.arithmetic.specs.Frequency.{is_frequency}

-- what passes among 0 to n is at most the greatest that passes, which passes if 0 does
passing-most : (test : ℕ → Bool) (n k : ℕ) → k ≤ n → T (test k) → k ≤ greatest_passing test n
unfolding greatest_passing
passing-most test zero k l h = l
passing-most test (suc n) k l h = go (test (suc n)) refl (λ m. passing-most test n k m h) (eq-or-lt_of_le l)
  where
    go :
        (b : Bool) → test (suc n) ≡ b → (k ≤ n → k ≤ greatest_passing test n) → (k ≡ suc n) ⊎ (k < suc n) →
        k ≤ cond b (suc n) (greatest_passing test n)
    go true e ih d = l
    go false e ih (inl d) = absurd (rw (d, e) at h)
    go false e ih (inr d) = ih (le_of_suc-le-suc d)

passing-passes : (test : ℕ → Bool) (n : ℕ) → T (test 0) → T (test (greatest_passing test n))
unfolding greatest_passing
passing-passes test zero h = h
passing-passes test (suc n) h = go (test (suc n)) refl (passing-passes test n h)
  where
    go :
        (b : Bool) → test (suc n) ≡ b → T (test (greatest_passing test n)) →
        T (test (cond b (suc n) (greatest_passing test n)))
    go true e ih = rw e tt
    go false e ih = ih

module _ (c x : ℕ) where
  -- the root passes,
  pub root-passes : greatest_root c x * greatest_root c x * c ≤ x
  unfolding greatest_root
  root-passes = leb→le _ x (passing-passes (λ h. leb (h * h * c) x) x (le→leb (0 * 0 * c) x (omega arith)))

  module _ (positive : 0 < c) where
    -- nothing greater does,
    pub root-greatest : (h : ℕ) → h * h * c ≤ x → h ≤ greatest_root c x
    unfolding greatest_root
    root-greatest h l = passing-most (λ h. leb (h * h * c) x) x h (le_trans (small h) l) (le→leb (h * h * c) x l)
      where
        small : (h : ℕ) → h ≤ h * h * c
        small zero = omega arith
        small (suc k) = omega (arith, mul-le-mul_left (suc k * suc k) positive)

    pub root-next-fails : x < (greatest_root c x + 1) * (greatest_root c x + 1) * c
    root-next-fails =
        lt_of_not-le (λ (l : (greatest_root c x + 1) * (greatest_root c x + 1) * c ≤ x).
        let g : greatest_root c x + 1 ≤ greatest_root c x = root-greatest (greatest_root c x + 1) l in omega arith)

    -- and the two inequalities determine it
    pub root-unique : (h : ℕ) → h * h * c ≤ x → x < (h + 1) * (h + 1) * c → h ≡ greatest_root c x
    root-unique h low high = le_antisymm (root-greatest h low) (below (greatest_root c x) root-passes)
      where
        below : (g : ℕ) → g * g * c ≤ x → g ≤ h
        below g l =
            let b : g < h + 1 = lt_of_not-le (λ (m : h + 1 ≤ g). not-le_of_lt high (le_trans (mul-le-mul_right c (mul-le-mul m m)) l)) in
            omega arith

    -- the whole square root of the quotient is the root of the product
    pub root-of-quotient : (h : ℕ) → h * h ≤ x / c → x / c < (h + 1) * (h + 1) → h ≡ greatest_root c x
    root-of-quotient h low high = root-unique h ((le-div_iff_mul-le positive).0 low) ((div-lt_iff_lt-mul positive).0 high)

pub cube-positive : {f : ℕ} → 0 < f → 0 < f * f * f
cube-positive h = mul-pos (mul-pos h h) h

module _ (f s : ℕ) where
  -- h by its two inequalities
  pub spacing-passes : spacing f s * spacing f s * (f * f * f) ≤ 3 * (1000 * s * (1000 * s))
  unfolding spacing
  spacing-passes = root-passes (f * f * f) (3 * (1000 * s * (1000 * s)))

  module _ (positive : 0 < f) where
    pub spacing-next-fails : 3 * (1000 * s * (1000 * s)) < (spacing f s + 1) * (spacing f s + 1) * (f * f * f)
    unfolding spacing
    spacing-next-fails = root-next-fails (f * f * f) (3 * (1000 * s * (1000 * s))) (cube-positive positive)

    pub spacing-unique :
        (h : ℕ) → h * h * (f * f * f) ≤ 3 * (1000 * s * (1000 * s)) →
        3 * (1000 * s * (1000 * s)) < (h + 1) * (h + 1) * (f * f * f) → h ≡ spacing f s
    unfolding spacing
    spacing-unique = root-unique (f * f * f) (3 * (1000 * s * (1000 * s))) (cube-positive positive)

    -- h is at most that of one step a year and the greatest volatility
    pub spacing-most : s ≤ 50000 → spacing f s ≤ 86602540
    spacing-most small =
        by_order (spacing f s) 86602540 (λ l. l)
        (λ l. absurd (beyond (spacing f s) l spacing-passes))
      where
        cube : 1 ≤ f * f * f
        cube = cube-positive positive

        beyond : (h : ℕ) → 86602540 < h → h * h * (f * f * f) ≤ 3 * (1000 * s * (1000 * s)) → ⊥
        beyond h l p =
            let square : 86602541 * 86602541 ≤ h * h = mul-le-mul l l in
            omega (arith, mul-le-mul_left (h * h) cube, mul-le-mul small small)

pub spacing-unlisted : (f s : ℕ) → is_frequency f ≡ false → spacing_answer f s ≡ refused 2
unfolding spacing_answer
spacing-unlisted f s u = rw u

pub spacing-volatile : (f s : ℕ) → is_frequency f ≡ true → 50000 < s → spacing_answer f s ≡ refused 5
unfolding spacing_answer
spacing-volatile f s u h = rw (u, lt-ltb 50000 s h)

pub spacing-accepted : (f s : ℕ) → is_frequency f ≡ true → s ≤ 50000 → spacing_answer f s ≡ answered (spacing f s)
unfolding spacing_answer
spacing-accepted f s u h = rw (u, le-ltb 50000 s h)

-- number 0 means accepted, and the value is h
pub record AcceptedSpacing (f s : ℕ) (answer : Answer) : Type 0 where
  pub frequency : is_frequency f ≡ true
  pub volatility : s ≤ 50000
  pub value : answer.value ≡ spacing f s

pub spacing-zero : (f s : ℕ) → (spacing_answer f s).number ≡ 0 → AcceptedSpacing f s (spacing_answer f s)
spacing-zero f s e = by-listed (is_frequency f) refl
  where
    impossible : (cause : ℕ) → 0 < cause → spacing_answer f s ≡ refused cause → ⊥
    impossible cause p r = omega (arith, ap (λ (a : Answer). a.number) r)

    by-listed : (t : Bool) → is_frequency f ≡ t → AcceptedSpacing f s (spacing_answer f s)
    by-listed false u = absurd (impossible 2 (omega arith) (spacing-unlisted f s u))
    by-listed true u =
        by_order s 50000
        (λ l. record { frequency = u; volatility = l; value = ap (λ (a : Answer). a.value) (spacing-accepted f s u l) })
        (λ l. absurd (impossible 5 (omega arith) (spacing-volatile f s u l)))
