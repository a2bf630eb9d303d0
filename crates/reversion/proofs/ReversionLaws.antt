-- The working reversion is from 1 to b where b is, rises with b, and is 0 for 0; the ratio of the variance is at most one.
-- Assumes nothing.
use mathlib.Core.Path.{◌≡◌, refl, sym, ◌∙◌, ap}
use mathlib.Core.Bool.{true, false, and-false}
use Prim.Native.Nat.{ℕ, ◌+◌, ◌-◌, ◌*◌, ◌/◌, ◌≤◌, ◌<◌}
use native.Mathlib.Nat.{le_refl, le_trans, div-le_of_le-mul}
use native.Mathlib.Omega.{arith}
use borrow.Author.Tests.{lt-ltb, le-ltb, lt-leb, le-leb, eq-eqb, ne_eqb}
use lib.Dec.{ltb, eqb}
use lib.IntN.{pos}
use Rattle.arithmetic.specs.Rounding.{one, round_down, nearest}
use Rattle.arithmetic.specs.Sum.{sum}
use Rattle.arithmetic.specs.declared.Answer.{Answer}
use Rattle.arithmetic.proofs.Numbers.{by_equal, by_order}
use Rattle.limits.specs.Limits.{most_reversion}
use Rattle.factor.specs.Series.{term, series}
use Rattle.continuous.specs.Continuous.{amount_limit, square_down, fourth_power, side_discount, continuous_discount, quotient_answer}
use Rattle.continuous.proofs.Sides.{above_most, above-line, hundred-lower}
use Rattle.continuous.proofs.Answers.{discount-above, quotient-value}
use Rattle.reversion.specs.Reversion.{is_version, exact_reversion, working_reversion, variance_ratio, is_exact, version_ratio}

-- ---- F at B and at 2B

discount-once : (b : ℕ) → continuous_discount (pos (100000 * b)) ≡ side_discount (25000 * b) false
unfolding round_down
discount-once b = discount-above (100000 * b) ∙ ap (λ (q : ℕ). side_discount q false) (omega arith)

discount-twice : (b : ℕ) → continuous_discount (pos (2 * (100000 * b))) ≡ side_discount (50000 * b) false
unfolding round_down
discount-twice b = discount-above (2 * (100000 * b)) ∙ ap (λ (q : ℕ). side_discount q false) (omega arith)

-- the entry's answer for a quarter of an amount within the limit is F, at most one
pub discount-found : (y : ℕ) (a : Answer) → a ≡ quotient_answer (y / 4) false → y ≤ amount_limit →
    (a.value ≡ continuous_discount (pos y)) × (a.value ≤ one)
unfolding round_down
discount-found y a e h =
    let found = quotient-value (y / 4) false a e (omega arith) in
    (found ∙ sym (discount-above y), omega (arith, found, above_most (y / 4) (omega arith)))

-- ---- the working reversion

-- as the code divides: a half of one is added first
pub exact-computed :
    (b f : ℕ) → f ≡ continuous_discount (pos (100000 * b)) → (10000 * (one - f) + 500000000) / one ≡ exact_reversion b
unfolding exact_reversion nearest
exact-computed b f e = rw e (omega arith)

pub exact-most : (b : ℕ) → b ≤ most_reversion → exact_reversion b ≤ b
unfolding exact_reversion nearest
exact-most b h = omega (arith, discount-once b, above-line (25000 * b) (omega arith))

pub exact-rises : (b c : ℕ) → b ≤ c → c ≤ most_reversion → exact_reversion b ≤ exact_reversion c
unfolding exact_reversion nearest
exact-rises b c h l =
    by_equal b c
    (λ e. rw e (le_refl _))
    (λ ne. omega (arith, discount-once b, discount-once c, hundred-lower (25000 * b) (25000 * c) (omega arith) (omega arith)))

exact_one : exact_reversion 1 ≡ 1
unfolding exact_reversion nearest continuous_discount side_discount fourth_power square_down series sum term round_down
exact_one = refl

pub exact-least : (b : ℕ) → 1 ≤ b → b ≤ most_reversion → 1 ≤ exact_reversion b
exact-least b h l = omega (arith, exact_one, exact-rises 1 b h l)

-- by version
pub working-first : (b : ℕ) → working_reversion 1 b ≡ b
unfolding working_reversion
working-first b = refl

-- what holds of version 2's for b within its limit, and of b itself, holds of the working reversion
by-working :
    (version b : ℕ) (P : ℕ → Type 0) → (version ≡ 2 → b ≤ most_reversion → P (exact_reversion b)) → P b → P (working_reversion version b)
unfolding working_reversion
by-working version b P f g =
    by_equal version 2
    (λ e. by_order b most_reversion
    (λ h. rw (eq-eqb version 2 e, le-leb b most_reversion h) (f e h))
    (λ h. rw (eq-eqb version 2 e, lt-leb b most_reversion h) g))
    (λ ne. rw (ne_eqb version 2 ne) g)

pub working-second : (version b : ℕ) → version ≡ 2 → b ≤ most_reversion → working_reversion version b ≡ exact_reversion b
unfolding working_reversion
working-second version b e h = rw (eq-eqb version 2 e, le-leb b most_reversion h)

pub working-other : (version b : ℕ) → (version ≡ 2 → ⊥) → working_reversion version b ≡ b
working-other version b ne = by-working version b (λ (w : ℕ). w ≡ b) (λ e h. absurd (ne e)) refl

pub working-beyond : (version b : ℕ) → most_reversion < b → working_reversion version b ≡ b
working-beyond version b l = by-working version b (λ (w : ℕ). w ≡ b) (λ e h. let none : ⊥ = omega arith in absurd none) refl

-- at most b, so that every law of the lattice holds of it
pub working-most : (version b : ℕ) → working_reversion version b ≤ b
working-most version b = by-working version b (λ (w : ℕ). w ≤ b) (λ e. exact-most b) (le_refl b)

pub working-none : (version : ℕ) → working_reversion version 0 ≡ 0
working-none version = omega (arith, working-most version 0)

pub working-least : (version b : ℕ) → 1 ≤ b → 1 ≤ working_reversion version b
working-least version b h = by-working version b (λ (w : ℕ). 1 ≤ w) (λ e. exact-least b h) h

pub working-rises : (version b c : ℕ) → b ≤ c → working_reversion version b ≤ working_reversion version c
working-rises version b c h =
    by-working version c (λ (w : ℕ). working_reversion version b ≤ w)
    (λ e l. rw (working-second version b e (omega arith)) (exact-rises b c h l))
    (le_trans (working-most version b) h)

pub working-limit : (version b : ℕ) → b ≤ most_reversion → working_reversion version b ≤ most_reversion
working-limit version b h = le_trans (working-most version b) h

-- cause 4 says the same of it as of b
pub working-cause : (version b : ℕ) → ltb most_reversion (working_reversion version b) ≡ ltb most_reversion b
working-cause version b =
    by_order b most_reversion
    (λ h. le-ltb most_reversion (working_reversion version b) (working-limit version b h) ∙ sym (le-ltb most_reversion b h))
    (λ h. ap (ltb most_reversion) (working-beyond version b h))

-- ---- the ratio of the variance

pub ratio-computed :
    (b f : ℕ) → f ≡ continuous_discount (pos (200000 * b)) → one * (one - f) / (200000 * b) ≡ variance_ratio b
unfolding variance_ratio round_down
ratio-computed b f e = let twice : 2 * (100000 * b) ≡ 200000 * b = omega arith in rw (e, twice)

pub exact-ratio-most : (b : ℕ) → 0 < b → b ≤ most_reversion → variance_ratio b ≤ one
unfolding variance_ratio round_down
exact-ratio-most b p h =
    div-le_of_le-mul (2 * (100000 * b)) (omega (arith, discount-twice b, above-line (50000 * b) (omega arith)))

pub ratio-second : (version b : ℕ) → version ≡ 2 → 0 < b → version_ratio version b ≡ variance_ratio b
unfolding version_ratio is_exact
ratio-second version b e p = rw (eq-eqb version 2 e, lt-ltb 0 b p)

pub ratio-same : (version b : ℕ) → is_exact version b ≡ false → version_ratio version b ≡ one
unfolding version_ratio
ratio-same version b e = rw e

pub other-same : (version b : ℕ) → (version ≡ 2 → ⊥) → is_exact version b ≡ false
unfolding is_exact
other-same version b ne = rw (ne_eqb version 2 ne)

pub first-same : (version b : ℕ) → version ≡ 1 → is_exact version b ≡ false
first-same version b e = other-same version b (λ (two : version ≡ 2). let none : ⊥ = omega arith in none)

pub none-same : (version b : ℕ) → b ≡ 0 → is_exact version b ≡ false
unfolding is_exact
none-same version b e = simp (le-ltb 0 b (omega arith), and-false)

pub ratio-most : (version b : ℕ) → b ≤ most_reversion → version_ratio version b ≤ one
ratio-most version b h =
    by_equal version 2
    (λ e. by_order b 0
    (λ l. rw (ratio-same version b (none-same version b (omega arith))) (le_refl one))
    (λ p. rw (ratio-second version b e p) (exact-ratio-most b p h)))
    (λ ne. rw (ratio-same version b (other-same version b ne)) (le_refl one))

-- ---- the versions

pub version-first : (version : ℕ) → version ≡ 1 → true ≡ is_version version
unfolding is_version
version-first version e = sym (rw (eq-eqb version 1 e))

pub version-rest : (version : ℕ) → (version ≡ 1 → ⊥) → eqb version 2 ≡ is_version version
unfolding is_version
version-rest version ne = sym (rw (ne_eqb version 1 ne))

-- a version other than 1 is 2
pub version-second : (version : ℕ) → is_version version ≡ true → (version ≡ 1 → ⊥) → version ≡ 2
version-second version v ne = by_equal version 2 (λ e. e) (λ nt. absurd (none (sym (ne_eqb version 2 nt) ∙ version-rest version ne ∙ v)))
  where
    none : false ≡ true → ⊥
    none z = let u : ◌≡◌ {A = ℕ} 0 1 = cc in omega arith
