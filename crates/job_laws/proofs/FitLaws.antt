-- Laws of a record's quotes and fit.
-- Assumes nothing.
use mathlib.Core.Path.{◌≡◌, sym, ◌∙◌, subst}
use mathlib.Core.List.{List}
use Prim.Native.Nat.{ℕ, ◌≤◌, ◌<◌}
use native.Mathlib.Omega.{arith}
use borrow.Author.Tests.{lt-ltb, le-ltb, eq-eqb, ne_eqb}
use lib.Ieee.{Float}
use lib.ListN.{length, take, length-take}
use Rattle.job_record.specs.Form.{most_job_steps}
use Rattle.limits.specs.WithinLimits.{WithinLimits}
use Rattle.arithmetic.proofs.CauseLaws.{unless-accepted, unless-refused}
use Rattle.arithmetic.specs.Row.{place}
use Rattle.arithmetic.proofs.Numbers.{by_order}
use Rattle.arithmetic.proofs.RowLaws.{length-row}
use Rattle.arithmetic.proofs.Implied.{implied}
use Rattle.lattice.specs.Shape.{discounts_needed, state_prices_needed}
use Rattle.curve.specs.Curve.{discount_at, curve_number, curve_memory}
use Rattle.spacing.specs.Spacing.{version_spacing_answer}
use Rattle.fitted_laws.specs.Entry.{version_number, fit_memory, version_discounts, version_state_prices}
use Rattle.fitted_laws.specs.inside.Numbers.{Numbers}
use Rattle.fitted_laws.proofs.FittedTree.{fit-discounts-length, fit-state-prices-length}
use Rattle.fitted_laws.proofs.Promised.{fit-numbers}
use Rattle.job_record.specs.declared.Job.{Job}
use Rattle.job_laws.specs.RecordFit.{meant_version, meant_reversion, job_reversion, job_rows, job_kinds, job_figures}
use Rattle.job_laws.specs.RecordFit.{job_quotes, job_discounts, job_state_prices, record_quotes, record_fit, memory_after}

-- ---- the version that a record means

pub meant-none : (version : ℕ) → version ≡ 0 → 1 ≡ meant_version version
unfolding meant_version
meant-none version z = sym (rw (eq-eqb version 0 z))

pub meant-some : (version : ℕ) → (version ≡ 0 → ⊥) → version ≡ meant_version version
unfolding meant_version
meant-some version some = sym (rw (ne_eqb version 0 some))

-- ---- the parts of columns that are lent

pub lent-column : {A : Type 0} (l : List A) (n : ℕ) → n ≤ length l → n ≡ length (take n l)
lent-column l n h = simp length-take (omega arith)

-- ---- a memory with a part at its start

pub memory-placed : (number : ℕ) (part memory : List ℕ) → number ≡ 0 → memory_after number part memory ≡ place memory 0 part
unfolding memory_after
memory-placed number part memory z = unless-accepted number _ _ z

pub memory_kept : (number : ℕ) (part memory : List ℕ) → (number ≡ 0 → ⊥) → memory ≡ memory_after number part memory
unfolding memory_after
memory_kept number part memory nz = sym (unless-refused number _ memory nz)

-- ---- the number and the memories of a record

module _ (job : Job) where
  -- what converting the quotes gives, and what the fit gives
  abbrev pub Quoted : List ℕ → ℕ → List ℕ → Type 0
  Quoted memory r after =
      (r ≡ record_quotes job (length memory)) × (after ≡ memory_after (record_quotes job (length memory)) (job_quotes job) memory)

  abbrev pub Fitted : List ℕ → List ℕ → ℕ → List ℕ → List ℕ → Type 0
  Fitted d p r after-d after-p =
      (r ≡ record_fit job (length d) (length p))
      × ((after-d ≡ fit_memory (record_fit job (length d) (length p)) (job_discounts job) d)
      × (after-p ≡ fit_memory (record_fit job (length d) (length p)) (job_state_prices job) p))

  module _ (many : most_job_steps < job.steps) where
    quotes-many : (room : ℕ) → 1 ≡ record_quotes job room
    unfolding record_quotes
    quotes-many room = rw (lt-ltb most_job_steps job.steps many)

    fit-many : (ds ps : ℕ) → 1 ≡ record_fit job ds ps
    unfolding record_fit
    fit-many ds ps = rw (lt-ltb most_job_steps job.steps many)

    one_kept : (number : ℕ) (part memory : List ℕ) → 1 ≡ number → memory ≡ fit_memory number part memory
    unfolding fit_memory
    one_kept number part memory e = rw (← e)

    pub quotes-refused : (memory : List ℕ) → Quoted memory 1 memory
    quotes-refused memory =
        let e = quotes-many (length memory) in
        (e, memory_kept _ (job_quotes job) memory (λ z. one-some (e ∙ z)))
      where
        one-some : ◌≡◌ {A = ℕ} 1 0 → ⊥
        one-some z = omega arith

    pub fit_refused : (d p : List ℕ) → Fitted d p 1 d p
    fit_refused d p =
        let e = fit-many (length d) (length p) in
        (e, (one_kept _ (job_discounts job) d e, one_kept _ (job_state_prices job) p e))

  module _ (few : job.steps ≤ most_job_steps) (rows : List ℕ) (figures : List Float) (er : rows ≡ job_rows job) (ef : figures ≡ job_figures job) where
    abbrev lent_quotes : ℕ → ℕ
    lent_quotes = curve_number job.frequency job.steps rows (job_kinds job) figures

    -- the fit of a version
    abbrev lent_fit : ℕ → ℕ → ℕ → ℕ
    lent_fit v = version_number v job.frequency job.steps job.reversion job.volatility rows (job_kinds job) figures

    abbrev lent_discounts : ℕ → List ℕ
    lent_discounts v = version_discounts v job.frequency job.steps job.reversion job.volatility (job_kinds job) figures

    abbrev lent_prices : ℕ → List ℕ
    lent_prices v = version_state_prices v job.frequency job.steps job.reversion job.volatility (job_kinds job) figures

    abbrev Made : ℕ → List ℕ → List ℕ → ℕ → List ℕ → List ℕ → Type 0
    Made v d p r after-d after-p =
        (r ≡ lent_fit v (length d) (length p))
        × ((after-d ≡ fit_memory (lent_fit v (length d) (length p)) (lent_discounts v) d)
        × (after-p ≡ fit_memory (lent_fit v (length d) (length p)) (lent_prices v) p))

    quotes-number : (room : ℕ) → lent_quotes room ≡ record_quotes job room
    unfolding record_quotes
    quotes-number room = rw (er, ef, le-ltb most_job_steps job.steps few)

    quotes-memory : (memory : List ℕ) → curve_memory job.frequency job.steps rows (job_kinds job) figures memory
        ≡ memory_after (record_quotes job (length memory)) (job_quotes job) memory
    unfolding record_quotes memory_after curve_memory job_quotes
    quotes-memory memory = rw (er, ef, le-ltb most_job_steps job.steps few)

    pub quotes-made : (memory after : List ℕ) (r : ℕ) → r ≡ lent_quotes (length memory) →
        after ≡ curve_memory job.frequency job.steps rows (job_kinds job) figures memory → Quoted memory r after
    quotes-made memory after r e a = (e ∙ quotes-number (length memory), a ∙ quotes-memory memory)

    abbrev meant : ℕ
    meant = meant_version job.version

    fit-number : (ds ps : ℕ) → lent_fit meant ds ps ≡ record_fit job ds ps
    unfolding record_fit
    fit-number ds ps = rw (er, ef, le-ltb most_job_steps job.steps few)

    discounts-are : lent_discounts meant ≡ job_discounts job
    unfolding job_discounts meant_reversion
    discounts-are = rw ef

    prices-are : lent_prices meant ≡ job_state_prices job
    unfolding job_state_prices meant_reversion
    prices-are = rw ef

    meant-made : (d p after-d after-p : List ℕ) (r : ℕ) → Made meant d p r after-d after-p → Fitted d p r after-d after-p
    meant-made d p after-d after-p r (e, (ed, ep)) =
        let n = fit-number (length d) (length p) in
        let same : (old new memory : List ℕ) → old ≡ new →
        fit_memory (lent_fit meant (length d) (length p)) old memory ≡ fit_memory (record_fit job (length d) (length p)) new memory =
        λ old new memory el. rw (n, el) in
        (e ∙ n, (ed ∙ same _ _ d discounts-are, ep ∙ same _ _ p prices-are))

    -- v is the version that the record means, as the code has it
    pub fit-made : (v : ℕ) → v ≡ meant_version job.version → (d p after-d after-p : List ℕ) (r : ℕ) →
        Made v d p r after-d after-p → Fitted d p r after-d after-p
    fit-made v ev d p after-d after-p r made =
        meant-made d p after-d after-p r (subst (λ (x : ℕ). Made x d p r after-d after-p) ev made)

-- ---- what a record's fit is where nothing is refused

module _ (job : Job) where
  pub quotes-length : length (job_quotes job) ≡ job.steps
  unfolding job_quotes
  quotes-length = length-row job.steps (discount_at job.frequency (job_kinds job) (job_figures job))

  pub discounts-length : length (job_discounts job) ≡ discounts_needed job.steps (job_reversion job)
  unfolding job_discounts
  discounts-length = fit-discounts-length _ _ _ _ (job_kinds job) (job_figures job)

  pub prices-length : length (job_state_prices job) ≡ state_prices_needed job.steps (job_reversion job)
  unfolding job_state_prices
  prices-length = fit-state-prices-length _ _ _ _ (job_kinds job) (job_figures job)

  module _ (ds ps : ℕ) (z : record_fit job ds ps ≡ 0) where
    pub steps-few : job.steps ≤ most_job_steps
    steps-few = by_order job.steps most_job_steps (λ h. h) (λ h. absurd (apart (fit-many job h ds ps ∙ z)))
      where
        apart : ◌≡◌ {A = ℕ} 1 0 → ⊥
        apart e = omega arith

    pub fit_none : version_number (meant_version job.version) job.frequency job.steps job.reversion job.volatility
        (job_rows job) (job_kinds job) (job_figures job) ds ps ≡ 0
    unfolding record_fit
    fit_none = rw (le-ltb most_job_steps job.steps steps-few) at z

    pub numbers : Numbers job.steps (job_reversion job)
        (curve_number job.frequency job.steps (job_rows job) (job_kinds job) (job_figures job) 60)
        (version_spacing_answer (meant_version job.version) job.frequency job.volatility job.reversion).number ds ps
    unfolding meant_reversion
    numbers = fit-numbers implied fit_none

    pub accepted : WithinLimits job.steps (job_reversion job)
    accepted = numbers.limits

    pub quotes-none : record_quotes job 60 ≡ 0
    unfolding record_quotes
    quotes-none = rw (le-ltb most_job_steps job.steps steps-few) numbers.quotes-converted
