-- Version 1 of the fit by version is the fit.
-- Assumes nothing.
use mathlib.Core.Path.{◌≡◌, refl, sym, ap, ◌∙◌}
use mathlib.Core.Bool.{Bool, true, false, cond, ◌&&◌}
use mathlib.Core.List.{List}
use Prim.Native.Nat.{ℕ, ◌≤◌, ◌<◌, min}
use native.Mathlib.Omega.{arith}
use lib.Dec.{leb}
use lib.Ieee.{Float}
use borrow.Author.Tests.{le-ltb, eq-eqb, ne_eqb}
use Rattle.limits.specs.WithinLimits.{WithinLimits}
use Rattle.arithmetic.specs.Answers.{lowest_cause}
use Rattle.arithmetic.specs.Frequency.{is_frequency}
use Rattle.arithmetic.specs.declared.Answer.{Answer}
use Rattle.arithmetic.proofs.Numbers.{by_order, by_equal}
use Rattle.arithmetic.proofs.CauseLaws.{lowest-second}
use Rattle.limits.specs.Limits.{most_steps, most_reversion}
use Rattle.lattice.specs.Shape.{discounts_needed}
use Rattle.lattice.specs.Entries.{discounts_needed_answer, state_prices_needed_answer, memory_cause}
use Rattle.lattice.proofs.TreeEntries.{by-tree}
use Rattle.reversion.specs.Reversion.{is_version}
use Rattle.reversion.proofs.ReversionLaws.{working-first}
use Rattle.spacing.specs.Spacing.{spacing_answer, version_spacing_answer}
use Rattle.spacing.proofs.SpacingLaws.{spacing-unlisted, spacing-volatile, spacing-accepted}
use Rattle.spacing.proofs.VersionLaws.{version-first, answer-unlisted, answer-reverting}
use Rattle.curve.specs.Curve.{curve_number}
use Rattle.fitted_laws.specs.Entry.{early_cause, fitted_number, fit_number, version_number}

-- ---- the number: a reversion beyond its limit is a cause of the tree and of the spacing by version

-- a cause below 4 or of 4, with none lower beside it
keeps : (l r : ℕ) → (l ≡ 0 → ⊥) → ((r ≡ 0 → ⊥) → l ≤ r) → lowest_cause l r ≡ l
unfolding lowest_cause
keeps l r nl h =
    by_equal r 0 (λ z. sym (lowest-second l r nl z))
    (λ nr. let below = h nr in rw (ne_eqb l 0 nl, ne_eqb r 0 nr) (omega arith))

low : (c t : ℕ) → (t ≡ 0 → ⊥) → t ≤ 4 → (lowest_cause c t ≡ 0 → ⊥) × (lowest_cause c t ≤ 4)
unfolding lowest_cause
low c t nt ht =
    by_equal c 0
    (λ z. rw (eq-eqb c 0 z) (nt, ht))
    (λ nc. rw (ne_eqb c 0 nc, ne_eqb t 0 nt) (λ (e : min c t ≡ 0). smallest e nc, omega arith))
  where
    smallest : min c t ≡ 0 → (c ≡ 0 → ⊥) → ⊥
    smallest e nc = by_order c t (λ h. nc (omega arith)) (λ h. nt (omega arith))

high : (a b : ℕ) → ((a ≡ 0 → ⊥) → 4 ≤ a) → ((b ≡ 0 → ⊥) → 4 ≤ b) → (lowest_cause a b ≡ 0 → ⊥) → 4 ≤ lowest_cause a b
unfolding lowest_cause
high a b ha hb =
    by_equal a 0
    (λ z. rw (eq-eqb a 0 z) hb)
    (λ na. by_equal b 0 (λ z. rw (ne_eqb a 0 na, eq-eqb b 0 z) ha)
    (λ nb. let p = ha na in let q = hb nb in rw (ne_eqb a 0 na, ne_eqb b 0 nb) (λ _. omega arith)))

memory-high : (n b ds ps : ℕ) → (memory_cause n b ds ps ≡ 0 → ⊥) → 4 ≤ memory_cause n b ds ps
unfolding memory_cause
memory-high n b ds ps = six (leb (discounts_needed_answer n b).value ds && leb (state_prices_needed_answer n b).value ps)
  where
    six : (t : Bool) → (◌≡◌ {A = ℕ} (cond t 0 6) 0 → ⊥) → 4 ≤ cond t 0 6
    six true nz = absurd (nz refl)
    six false nz = omega arith

module _ (f n b s : ℕ) where
  -- within the limit the answers are the same
  within : b ≤ most_reversion → version_spacing_answer 1 f s b ≡ spacing_answer f s
  unfolding version_spacing_answer spacing_answer is_version
  within h = rw (le-ltb most_reversion b h, version-first f s b)

  module _ (h : most_reversion < b) where
    tree-low : ((discounts_needed_answer n b).number ≡ 0 → ⊥) × ((discounts_needed_answer n b).number ≤ 4)
    tree-low =
        by-tree n b (discounts_needed n b) (λ a. (a.number ≡ 0 → ⊥) × (a.number ≤ 4)) (λ _. (three, omega arith)) (λ _. (three, omega arith))
        (λ _ _ _. (four, omega arith)) (λ (k : WithinLimits n b). absurd (beyond k.reversion-within-limit))
      where
        three : ◌≡◌ {A = ℕ} 3 0 → ⊥
        three z = omega arith

        four : ◌≡◌ {A = ℕ} 4 0 → ⊥
        four z = omega arith

        beyond : b ≤ most_reversion → ⊥
        beyond l = omega arith

    early-alike : (c x y ds ps : ℕ) → ((x ≡ 0 → ⊥) → 4 ≤ x) → ((y ≡ 0 → ⊥) → 4 ≤ y) → early_cause c n b x ds ps ≡ early_cause c n b y ds ps
    unfolding early_cause
    early-alike c x y ds ps hx hy =
        let l = low c (discounts_needed_answer n b).number tree-low.0 tree-low.1 in
        let m = memory-high n b ds ps in
        keeps _ _ l.0 (λ some. omega (arith, l.1, high x (memory_cause n b ds ps) hx m some))
        ∙ sym (keeps _ _ l.0 (λ some. omega (arith, l.1, high y (memory_cause n b ds ps) hy m some)))

    spacing-high : is_frequency f ≡ true → ((spacing_answer f s).number ≡ 0 → ⊥) → 4 ≤ (spacing_answer f s).number
    spacing-high u some =
        by_order s 50000
        (λ l. absurd (some (ap (λ (a : Answer). a.number) (spacing-accepted f s u l))))
        (λ l. omega (arith, ap (λ (a : Answer). a.number) (spacing-volatile f s u l)))

    version-four : is_frequency f ≡ true → (version_spacing_answer 1 f s b).number ≡ 4
    version-four u = ap (λ (a : Answer). a.number) (answer-reverting 1 f s b u h)

    early-first : (c ds ps : ℕ) → (t : Bool) → is_frequency f ≡ t →
        early_cause c n b (version_spacing_answer 1 f s b).number ds ps ≡ early_cause c n b (spacing_answer f s).number ds ps
    early-first c ds ps false u =
        ap (λ (a : Answer). early_cause c n b a.number ds ps) (answer-unlisted 1 f s b u ∙ sym (spacing-unlisted f s u))
    early-first c ds ps true u = early-alike c _ _ ds ps (λ _. omega (arith, version-four u)) (spacing-high u)

  early-same : (c ds ps : ℕ) → early_cause c n b (version_spacing_answer 1 f s b).number ds ps ≡ early_cause c n b (spacing_answer f s).number ds ps
  early-same c ds ps =
      by_order b most_reversion
      (λ h. ap (λ (a : Answer). early_cause c n b a.number ds ps) (within h))
      (λ h. early-first h c ds ps (is_frequency f) refl)

  -- the number of version 1 is that of the fit
  pub first-number : (rows kinds : List ℕ) (figures : List Float) (ds ps : ℕ) →
      version_number 1 f n b s rows kinds figures ds ps ≡ fit_number f n b s rows kinds figures ds ps
  unfolding fitted_number
  first-number rows kinds figures ds ps =
      rw (working-first b, version-first f s b, early-same (curve_number f n rows kinds figures most_steps) ds ps)
