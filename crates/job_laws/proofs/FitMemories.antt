-- The fit of a record in lent memories against that in memories of the widest tree: the lower of its number and of 6 for the memories.
-- Assumes nothing.
use mathlib.Core.Path.{◌≡◌, refl, sym, ap, ◌∙◌}
use mathlib.Core.Bool.{Bool, true, false, cond, ◌&&◌}
use mathlib.Core.List.{List}
use Prim.Native.Nat.{ℕ, suc, ◌≤◌, ◌<◌, ◌*◌, ◌-◌, min}
use native.Mathlib.Nat.{mul-le-mul, le_of_lt}
use native.Mathlib.Omega.{arith}
use lib.Dec.{eqb, leb, ltb}
use lib.Ieee.{Float}
use borrow.Author.Tests.{eq-eqb, ne_eqb}
use Rattle.arithmetic.specs.Answers.{lowest_cause}
use Rattle.arithmetic.specs.Rounding.{one}
use Rattle.arithmetic.proofs.CauseLaws.{lowest-first, lowest-more, lowest-less, lowest-alone, lowest-none}
use Rattle.arithmetic.proofs.Numbers.{by_equal, by_order}
use Rattle.arithmetic.proofs.Implied.{Implied, implied, lastly, ◌▸◌}
use Rattle.limits.specs.Limits.{most_steps, most_discounts, most_state_prices, shape_cause}
use Rattle.limits.proofs.LimitLaws.{shape-accepted}
use Rattle.lattice.specs.Shape.{half_width, discounts_needed, state_prices_needed}
use Rattle.lattice.specs.Entries.{about_tree, discounts_needed_answer, state_prices_needed_answer, memory_cause}
use Rattle.lattice.proofs.EntryLaws.{tree-refused, tree-answered}
use Rattle.lattice.proofs.MemoryLaws.{memory-enough}
use Rattle.lattice.proofs.Sizes.{start-most}
use Rattle.fitted_laws.specs.Fit.{curve_accepted}
use Rattle.fitted_laws.specs.Entry.{quotes_of, early_cause, late_cause, fitted_number}
use Rattle.curve.specs.Curve.{curve_number}
use Rattle.job_record.specs.Form.{most_job_steps}
use Rattle.job_record.specs.declared.Job.{Job}
use Rattle.job_laws.specs.RecordFit.{meant_reversion, job_reversion, record_fit}

-- ---- the widest tree's memories hold every tree

module _ (n b : ℕ) where
  within : (x most : ℕ) → (shape_cause n b ≡ 0 → x ≤ most) → (about_tree n b x).value ≤ most
  within x most h =
      by_equal (shape_cause n b) 0
      (λ z. rw (tree-answered n b x z) (h z))
      (λ nz. rw (tree-refused n b x (shape_cause n b) refl nz) (omega arith))

  discounts-most : shape_cause n b ≡ 0 → discounts_needed n b ≤ most_discounts
  unfolding discounts_needed
  discounts-most z = let s = shape-accepted n b z in omega (arith, start-most b n, mul-le-mul s.1 s.1)

  prices-most : shape_cause n b ≡ 0 → state_prices_needed n b ≤ most_state_prices
  unfolding state_prices_needed
  prices-most z =
      let s = shape-accepted n b z in
      let few : suc n ≤ 61 = omega (arith, s.1) in
      omega (arith, start-most b (suc n), mul-le-mul few few)

  pub memory-widest : memory_cause n b most_discounts most_state_prices ≡ 0
  memory-widest =
      sym (memory-enough n b most_state_prices {needed = discounts_needed_answer n b} {all = state_prices_needed_answer n b} refl refl
      (within (discounts_needed n b) most_discounts discounts-most) (within (state_prices_needed n b) most_state_prices prices-most))

-- ---- causes as plain numbers: 6 beside others, and a last one that is above it

min-six : (x s : ℕ) → min (min x s) 6 ≡ min x (min s 6)
min-six x s = omega arith

six-beside : (x s : ℕ) → lowest_cause (lowest_cause x s) 6 ≡ lowest_cause x (lowest_cause s 6)
unfolding lowest_cause
six-beside x s =
    by_equal x 0
    (λ zx. rw (eq-eqb x 0 zx))
    (λ nx. by_equal s 0
    (λ zs. rw (ne_eqb x 0 nx, eq-eqb s 0 zs, ne_eqb x 0 nx))
    (λ ns. both nx ns))
  where
    both : (x ≡ 0 → ⊥) → (s ≡ 0 → ⊥) → lowest_cause (lowest_cause x s) 6 ≡ lowest_cause x (lowest_cause s 6)
    both nx ns =
        let m : min x s ≡ 0 → ⊥ = λ z. omega (arith, nx, ns) in
        let k : min s 6 ≡ 0 → ⊥ = λ z. omega (arith, ns) in
        rw (ne_eqb x 0 nx, ne_eqb s 0 ns, ne_eqb (min x s) 0 m, ne_eqb (min s 6) 0 k) (min-six x s)

six-chosen : (early late : ℕ) → ((late ≡ 0 → ⊥) → 6 < late) →
    cond (eqb (lowest_cause early 6) 0) late (lowest_cause early 6) ≡ lowest_cause (cond (eqb early 0) late early) 6
six-chosen early late high =
    by_equal early 0
    (λ z. rw (← lowest-first early 6 z, eq-eqb early 0 z) (by_equal late 0 (lowest-first late 6) (λ nz. lowest-more late 6 nz six (le_of_lt (high nz)))))
    (λ nz. rw (ne_eqb early 0 nz, ne_eqb (lowest_cause early 6) 0 (λ z. nz (lowest-none early 6 z).0)))
  where
    six : ◌≡◌ {A = ℕ} 6 0 → ⊥
    six z = omega arith

-- the number by the causes beside that of the memories
abbrev chosen : ℕ → ℕ → ℕ → ℕ → ℕ
chosen x s late m = cond (eqb (lowest_cause x (lowest_cause s m)) 0) late (lowest_cause x (lowest_cause s m))

module _ (x s late : ℕ) (high : (late ≡ 0 → ⊥) → 6 < late) where
  chosen-six : chosen x s late 6 ≡ lowest_cause (chosen x s late 0) 6
  chosen-six =
      ap (λ (k : ℕ). cond (eqb k 0) late k) (sym (six-beside x s))
      ∙ six-chosen (lowest_cause x s) late high
      ∙ ap (λ (k : ℕ). lowest_cause (cond (eqb k 0) late k) 6) (ap (lowest_cause x) (lowest-alone s 0 refl))

  chosen_none : chosen x s late 0 ≡ lowest_cause (chosen x s late 0) 0
  chosen_none = lowest-alone (chosen x s late 0) 0 refl

late-high : (n w h : ℕ) (quotes : List ℕ) → (late_cause n w h quotes ≡ 0 → ⊥) → 6 < late_cause n w h quotes
unfolding late_cause
late-high n w h quotes = go (ltb one (half_width w (n - 1) * h)) (curve_accepted w h quotes)
  where
    go : (p q : Bool) → (◌≡◌ {A = ℕ} (cond p 8 (cond q 0 9)) 0 → ⊥) → 6 < cond p 8 (cond q 0 9)
    go true q some = omega arith
    go false true some = absurd (some refl)
    go false false some = omega arith

by-memory : (n w ds ps : ℕ) (P : ℕ → Type 0) → P 0 → P 6 → P (memory_cause n w ds ps)
unfolding memory_cause
by-memory n w ds ps P none six = go (leb (discounts_needed_answer n w).value ds && leb (state_prices_needed_answer n w).value ps)
  where
    go : (t : Bool) → P (cond t 0 6)
    go true = none
    go false = six

-- ---- the fit

fitted-in : {f n w spaced h : ℕ} {rows kinds : List ℕ} {figures : List Float} {ds ps : ℕ} →
    Implied (f ▸ n ▸ w ▸ spaced ▸ h ▸ rows ▸ kinds ▸ figures ▸ ds ▸ lastly ps) →
    fitted_number f n w spaced h rows kinds figures ds ps
    ≡ lowest_cause (fitted_number f n w spaced h rows kinds figures most_discounts most_state_prices) (memory_cause n w ds ps)
unfolding fitted_number early_cause
fitted-in {f} {n} {w} {spaced} {h} {rows} {kinds} {figures} {ds} {ps} _ =
    let high = late-high n w h (quotes_of f n kinds figures) in
    let x = lowest_cause (curve_number f n rows kinds figures most_steps) (discounts_needed_answer n w).number in
    let late = late_cause n w h (quotes_of f n kinds figures) in
    rw (memory-widest n w)
    (by-memory n w ds ps (λ (m : ℕ). chosen x spaced late m ≡ lowest_cause (chosen x spaced late 0) m) (chosen_none x spaced late high)
    (chosen-six x spaced late high))

one-first : (t : Bool) (x y m : ℕ) → 1 ≡ lowest_cause 1 m → x ≡ lowest_cause y m → cond t 1 x ≡ lowest_cause (cond t 1 y) m
one-first true x y m first e = first
one-first false x y m first e = e

one-lowest : (n w ds ps : ℕ) → 1 ≡ lowest_cause 1 (memory_cause n w ds ps)
one-lowest n w ds ps =
    by-memory n w ds ps (λ (m : ℕ). 1 ≡ lowest_cause 1 m) (lowest-alone 1 0 refl) (lowest-less 1 6 (λ z. omega arith) (λ z. omega arith) (omega arith))

pub fit-in : (job : Job) (ds ps : ℕ) →
    record_fit job ds ps ≡ lowest_cause (record_fit job most_discounts most_state_prices) (memory_cause job.steps (job_reversion job) ds ps)
unfolding record_fit meant_reversion
fit-in job ds ps =
    one-first (ltb most_job_steps job.steps) _ _ _ (one-lowest job.steps _ ds ps) (fitted-in implied)

-- memories that are too short: the fit refuses with no more than 6, and so before it writes
pub short-refused : (job : Job) (ds ps : ℕ) → (memory_cause job.steps (job_reversion job) ds ps ≡ 0 → ⊥) →
    (record_fit job ds ps ≡ 0 → ⊥) × (record_fit job ds ps ≤ 6)
short-refused job ds ps =
    by-memory job.steps (job_reversion job) ds ps
    (λ (m : ℕ). record_fit job ds ps ≡ lowest_cause (record_fit job most_discounts most_state_prices) m → (m ≡ 0 → ⊥) →
    (record_fit job ds ps ≡ 0 → ⊥) × (record_fit job ds ps ≤ 6))
    (λ e some. absurd (some refl)) (λ e some. refused (record_fit job most_discounts most_state_prices) (record_fit job ds ps) e) (fit-in job ds ps)
  where
    refused : (x y : ℕ) → y ≡ lowest_cause x 6 → (y ≡ 0 → ⊥) × (y ≤ 6)
    refused x y e = (λ z. none (lowest-none x 6 (sym e ∙ z)).1, rw e (least x))
      where
        none : ◌≡◌ {A = ℕ} 6 0 → ⊥
        none z = omega arith

        least : (a : ℕ) → lowest_cause a 6 ≤ 6
        least a =
            by_equal a 0 (λ z. omega (arith, lowest-first a 6 z))
            (λ nz. by_order 6 a (λ h. omega (arith, lowest-more a 6 nz none h)) (λ h. omega (arith, lowest-less a 6 nz none h)))
