-- Laws of a job's prices.
-- Assumes nothing.
use mathlib.Core.Path.{◌≡◌, refl, sym, ap, ◌∙◌, subst}
use mathlib.Core.Bool.{Bool, true, false, cond}
use mathlib.Core.List.{List}
use Prim.Native.Nat.{ℕ, ◌≤◌, ◌<◌}
use native.Mathlib.Omega.{arith}
use borrow.Author.Tests.{eq-eqb, ne_eqb, le-leb, lt-leb}
use lib.Dec.{eqb}
use lib.ListN.{length, take, length-take}
use Rattle.arithmetic.specs.Answers.{first_cause}
use Rattle.arithmetic.specs.Row.{values, place}
use Rattle.arithmetic.specs.declared.Answer.{Answer}
use Rattle.arithmetic.proofs.CauseLaws.{unless-accepted, unless-refused}
use Rattle.arithmetic.proofs.Numbers.{by_equal, by_order}
use Rattle.arithmetic.proofs.PlaceLaws.{filled-place, length-place, place-front}
use Rattle.arithmetic.proofs.RowLaws.{Filled, row_of}
use Rattle.arithmetic.proofs.Implied.{Implied, implied, lastly, ◌▸◌}
use Rattle.limits.specs.Limits.{most_discounts, most_state_prices}
use Rattle.limits.specs.WithinLimits.{WithinLimits}
use Rattle.lattice.specs.Shape.{discounts_needed}
use Rattle.lattice.specs.Entries.{discounts_needed_answer, state_prices_needed_answer, memory_cause}
use Rattle.lattice.proofs.TreeEntries.{tree-value}
use Rattle.fitted_laws.specs.Entry.{fit_memory}
use Rattle.fitted_laws.proofs.CauseLaws.{memory-none}
use Rattle.fitted_laws.proofs.FittedTree.{fit-placed}
use Rattle.price_laws.specs.declared.Price.{Price}
use Rattle.price_laws.specs.declared.BondAndOption.{BondAndOption}
use Rattle.price_laws.specs.Prices.{refused_price, bond_price, option_price, dated_price}
use Rattle.job_record.specs.declared.OptionRecord.{OptionRecord}
use Rattle.job_record.specs.declared.Job.{Job}
use Rattle.job_record.specs.declared.Reading.{Reading}
use Rattle.job_record.specs.Form.{most_job_steps, most_dates}
use Rattle.job_record.specs.Reader.{reading_of}
use Rattle.job_laws.specs.RecordFit.{job_reversion, job_flows, job_discounts, job_state_prices, record_fit, memory_after}
use Rattle.job_laws.proofs.FitLaws as fits
use Rattle.job_laws.specs.declared.JobPrices.{JobPrices}
use Rattle.job_laws.specs.JobPrices.{option_form, option_dates, tagged_option, tree_number, refused_prices, fitted_memory}
use Rattle.job_laws.specs.JobPrices.{prices_of, record_number, record_prices, bytes_number, bytes_prices, bytes_memory}
use Rattle.job_laws.specs.inside.TreePrices.{tree_prices}
use Rattle.job_laws.proofs.Accepted.{record-accepted, record-formed}
use Rattle.job_laws.proofs.FitMemories.{memory-widest, fit-in, short-refused}

pub all_placed : (l₀ l part : List ℕ) (i : ℕ) → Filled l₀ l (values part) i → i ≡ length part → length part ≤ length l₀ → l ≡ place l₀ 0 part
all_placed l₀ l part i filled e fits =
    filled-place l₀ l (values part) (length part) (subst (λ (k : ℕ). Filled l₀ l (values part) k) e filled) fits
    ∙ ap (λ (p : List ℕ). place l₀ 0 p) (sym (row_of part (length part) (values part) refl (λ k h. refl)))

-- ---- an answer

module _ (number : ℕ) (bond : Price) (present : Bool) (option : Price) where
  pub prices-refused : (number ≡ 0 → ⊥) → refused_prices number ≡ prices_of number bond present option
  unfolding prices_of
  prices-refused nz = rw (ne_eqb number 0 nz)

  pub prices-given : number ≡ 0 → record { number = 0; bond = bond; has_option = present; option = option } ≡ prices_of number bond present option
  unfolding prices_of
  prices-given z = rw (eq-eqb number 0 z)

  pub prices-number : (prices_of number bond present option).number ≡ number
  prices-number =
      by_equal number 0
      (λ z. ap (λ (p : JobPrices). p.number) (sym (prices-given z)) ∙ sym z)
      (λ nz. ap (λ (p : JobPrices). p.number) (sym (prices-refused nz)))

-- ---- the prices of a tree

module _ (n b : ℕ) (discounts flows : List ℕ) (option : OptionRecord) (r : JobPrices) where
  pub without-option : (bond : Price) → option.tag ≡ 0 → bond ≡ bond_price n b discounts flows →
      r ≡ prices_of bond.number bond false (refused_price 0) → r ≡ tree_prices n b discounts flows option
  unfolding tree_prices tree_number
  without-option bond z eb e = e ∙ rw (eb, eq-eqb option.tag 0 z)

  pub with-option : (both : BondAndOption) → (option.tag ≡ 0 → ⊥) →
      both.bond ≡ bond_price n b discounts flows → both.option ≡ tagged_option n b discounts flows option →
      r ≡ prices_of both.option.number both.bond true both.option → r ≡ tree_prices n b discounts flows option
  unfolding tree_prices tree_number
  with-option both nz eb eo e = e ∙ rw (eb, eo, ne_eqb option.tag 0 nz)

-- ---- the option by its tag

module _ (n b : ℕ) (discounts flows : List ℕ) (option : OptionRecord) where
  pub tagged-kind : option.tag ≡ 8 →
      option_price n b discounts flows option.kind option.expiry option.strike ≡ tagged_option n b discounts flows option
  unfolding tagged_option
  tagged-kind e = rw (eq-eqb option.tag 8 e)

  pub tagged-list : (option.tag ≡ 8 → ⊥) →
      dated_price n b discounts flows option.kind (option_dates option) option.strike ≡ tagged_option n b discounts flows option
  unfolding tagged_option
  tagged-list other = rw (ne_eqb option.tag 8 other)

-- ---- the form of an option

module _ (tag count : ℕ) where
  pub form-long : most_dates < count → 1 ≡ option_form tag count
  unfolding option_form
  form-long h = rw (lt-leb count most_dates h)

  module _ (few : count ≤ most_dates) where
    pub form-none : tag ≡ 0 → 0 ≡ option_form tag count
    unfolding option_form
    form-none e = rw (le-leb count most_dates few, eq-eqb tag 0 e)

    module _ (some : tag ≡ 0 → ⊥) where
      pub form-kind : tag ≡ 8 → 0 ≡ option_form tag count
      unfolding option_form
      form-kind e = rw (le-leb count most_dates few, ne_eqb tag 0 some, eq-eqb tag 8 e)

      module _ (other : tag ≡ 8 → ⊥) where
        pub form-list : tag ≡ 10 → 0 ≡ option_form tag count
        unfolding option_form
        form-list e = rw (le-leb count most_dates few, ne_eqb tag 0 some, ne_eqb tag 8 other, eq-eqb tag 10 e)

        pub form-other : (tag ≡ 10 → ⊥) → 1 ≡ option_form tag count
        unfolding option_form
        form-other neither = rw (le-leb count most_dates few, ne_eqb tag 0 some, ne_eqb tag 8 other, ne_eqb tag 10 neither)

  pub form-few : option_form tag count ≡ 0 → count ≤ most_dates
  form-few z = by_order count most_dates (λ h. h) (λ h. absurd (omega (arith, form-long h)))

-- ---- what a call leaves

-- the answer and both memories
abbrev pub Left : ℕ → JobPrices → List ℕ → List ℕ → List ℕ → List ℕ → JobPrices → List ℕ → List ℕ → Type 0
Left number prices part₁ part₂ d p r after-d after-p =
    (r ≡ prices) × ((after-d ≡ memory_after number part₁ d) × (after-p ≡ memory_after number part₂ p))

module _ (number : ℕ) (prices : JobPrices) (part₁ part₂ d p : List ℕ) (r : JobPrices) (e : r ≡ prices) where
  pub left-refused : (number ≡ 0 → ⊥) → Left number prices part₁ part₂ d p r d p
  left-refused nz = (e, (fits.memory_kept number part₁ d nz, fits.memory_kept number part₂ p nz))

  pub left-placed : (after-d after-p : List ℕ) → number ≡ 0 → after-d ≡ place d 0 part₁ → after-p ≡ place p 0 part₂ →
      Left number prices part₁ part₂ d p r after-d after-p
  left-placed after-d after-p z ed ep =
      (e, (ed ∙ sym (fits.memory-placed number part₁ d z), ep ∙ sym (fits.memory-placed number part₂ p z)))

-- a cause that was found is the number: it is given, and both memories are as they were
pub found_left : {cause number : ℕ} {bond : Price} {present : Bool} {option : Price} {part₁ part₂ d p : List ℕ} →
    Implied (bond ▸ present ▸ option ▸ part₁ ▸ part₂ ▸ d ▸ lastly p) → cause ≡ number → (cause ≡ 0 → ⊥) →
    (r : JobPrices) → r ≡ refused_prices cause → Left number (prices_of number bond present option) part₁ part₂ d p r d p
found_left {number = number} {bond} {present} {option} {part₁} {part₂} {d} {p} _ found nz r e =
    left-refused number _ part₁ part₂ d p r
    (e ∙ ap refused_prices found ∙ prices-refused number bond present option (λ z. nz (found ∙ z))) (λ z. nz (found ∙ z))

module _ (n b : ℕ) (discounts flows : List ℕ) (option : OptionRecord) (r : JobPrices) (e : r ≡ tree_prices n b discounts flows option) where
  pub tree-number : r.number ≡ tree_number n b discounts flows option
  unfolding tree_prices
  tree-number = ap (λ (p : JobPrices). p.number) e ∙ prices-number _ _ _ _

-- ---- the prices of a record

-- what the prices of a record leave
abbrev pub Record : Job → List ℕ → List ℕ → JobPrices → List ℕ → List ℕ → Type 0
Record job d p =
    Left (record_number job (length d) (length p)) (record_prices job (length d) (length p)) (job_discounts job) (job_state_prices job) d p

-- what the prices of a record leave that is fitted in the lent memories
abbrev pub InPlace : Job → List ℕ → List ℕ → JobPrices → List ℕ → List ℕ → Type 0
InPlace job d p r after-d after-p =
    (r ≡ record_prices job (length d) (length p))
    × ((after-d ≡ fitted_memory job (length d) (length p) (job_discounts job) d) × (after-p ≡ fitted_memory job (length d) (length p) (job_state_prices job) p))

-- a cause that was found is the number
number-given : (cause number : ℕ) (bond : Price) (present : Bool) (option : Price) → cause ≡ number → (cause ≡ 0 → ⊥) → (r : JobPrices) →
    r ≡ refused_prices cause → r ≡ prices_of number bond present option
number-given cause number bond present option found nz r e =
    e ∙ ap refused_prices found ∙ prices-refused number bond present option (λ z. nz (found ∙ z))

-- a record whose option has no job's form
module _ (job : Job) (d p : List ℕ) (form : ℕ) (ef : form ≡ option_form job.option.tag job.option.count) (nz : form ≡ 0 → ⊥) where
  form-found : form ≡ record_number job (length d) (length p)
  unfolding record_number first_cause
  form-found = rw (← ef, ne_eqb form 0 nz)

  form-kept : (rows memory : List ℕ) → memory ≡ fitted_memory job (length d) (length p) rows memory
  unfolding fitted_memory
  form-kept rows memory = sym (unless-refused _ _ memory (λ z. nz (ef ∙ z)))

  pub form-refused : (r : JobPrices) → r ≡ refused_prices form → InPlace job d p r d p
  unfolding record_prices
  form-refused r e = (number-given form _ _ _ _ form-found nz r e, (form-kept _ d, form-kept _ p))

-- a record that is fitted in the lent memories
module _ (job : Job) (d p : List ℕ) (formed : option_form job.option.tag job.option.count ≡ 0)
    (fitted : ℕ) (after-d after-p : List ℕ) (fit : fits.Fitted job d p fitted after-d after-p) where
  fit-left : (rows memory after : List ℕ) → after ≡ fit_memory (record_fit job (length d) (length p)) rows memory →
      after ≡ fitted_memory job (length d) (length p) rows memory
  unfolding fitted_memory
  fit-left rows memory after e = e ∙ sym (unless-accepted _ _ memory formed)

  abbrev left : (r : JobPrices) → r ≡ record_prices job (length d) (length p) → InPlace job d p r after-d after-p
  left r e = (e, (fit-left _ d after-d fit.1.0, fit-left _ p after-p fit.1.1))

  fit_found : (fitted ≡ 0 → ⊥) → fitted ≡ record_number job (length d) (length p)
  unfolding record_number first_cause
  fit_found nz = rw (eq-eqb _ 0 formed, ← fit-in job (length d) (length p), ← fit.0, ne_eqb fitted 0 nz)

  pub fit_refused : (r : JobPrices) → r ≡ refused_prices fitted → (fitted ≡ 0 → ⊥) → InPlace job d p r after-d after-p
  unfolding record_prices
  fit_refused r e nz = left r (number-given fitted _ _ _ _ (fit_found nz) nz r e)

  module _ (z : fitted ≡ 0) where
    fit_none : record_fit job (length d) (length p) ≡ 0
    fit_none = sym fit.0 ∙ z

    number_is : tree_number job.steps (job_reversion job) (job_discounts job) (job_flows job) job.option ≡ record_number job (length d) (length p)
    unfolding record_number first_cause
    number_is = rw (eq-eqb _ 0 formed, ← fit-in job (length d) (length p), fit_none)

    prices-are : tree_prices job.steps (job_reversion job) (job_discounts job) (job_flows job) job.option ≡ record_prices job (length d) (length p)
    unfolding tree_prices record_prices
    prices-are = rw number_is

    pub steps-within : job.steps ≤ most_job_steps
    steps-within = fits.steps-few job _ _ fit_none

    pub dates-few : job.option.count ≤ most_dates
    dates-few = form-few _ _ formed

    -- the working reversion and the count that the code works out
    module _ (b : ℕ) (eb : b ≡ job_reversion job) (needed : Answer) (en : needed ≡ discounts_needed_answer job.steps b) where
      counted : length (job_discounts job) ≡ needed.value
      counted =
          fits.discounts-length job ∙ sym (tree-value _ _ _ needed (en ∙ ap (discounts_needed_answer job.steps) eb) (fits.accepted job _ _ fit_none))

      placed : after-d ≡ place d 0 (job_discounts job)
      placed = fit.1.0 ∙ fit-placed _ (job_discounts job) d fit_none

      room : length (job_discounts job) ≤ length d
      unfolding discounts_needed
      room = omega (arith, fits.discounts-length job, (fits.numbers job _ _ fit_none).room-discounts)

      pub discounts-are : take needed.value after-d ≡ job_discounts job
      discounts-are = ap (take needed.value) placed ∙ place-front d (job_discounts job) needed.value counted

      pub discounts-count : needed.value ≡ length (take needed.value after-d)
      discounts-count = sym (ap length discounts-are ∙ counted)

      pub discounts-end : needed.value ≤ length after-d
      discounts-end = omega (arith, room, counted, ap length placed, length-place d 0 (job_discounts job) (omega (arith, room)))

      pub prices-made : (r : JobPrices) → r ≡ tree_prices job.steps b (take needed.value after-d) (job_flows job) job.option →
          InPlace job d p r after-d after-p
      prices-made r e =
          left r
          (e ∙ ap (λ (l : List ℕ). tree_prices job.steps b l (job_flows job) job.option) discounts-are
          ∙ ap (λ (x : ℕ). tree_prices job.steps x (job_discounts job) (job_flows job) job.option) eb
          ∙ prices-are)

-- where the fit is accepted the tree stands in the memories
pub fitted-placed : (job : Job) (ds ps : ℕ) → option_form job.option.tag job.option.count ≡ 0 → record_fit job ds ps ≡ 0 →
    (rows memory : List ℕ) → fitted_memory job ds ps rows memory ≡ place memory 0 rows
unfolding fitted_memory
fitted-placed job ds ps formed fit rows memory = unless-accepted _ _ memory formed ∙ fit-placed _ rows memory fit

-- ---- fitted apart, and copied to the lent memories

-- so many numbers at the start of memories apart, which the lent memories have room for: placed there, they are what the prices of a record leave
pub record Apart (job : Job) (lent-d lent-p d p : List ℕ) (needed all : ℕ) (r : JobPrices) : Type 0 where
  pub discounts-end : needed ≤ length d
  pub discounts-count : needed ≡ length (take needed d)
  pub discounts-fit : length (take needed d) ≤ length lent-d
  pub prices-end : all ≤ length p
  pub prices-count : all ≡ length (take all p)
  pub prices-fit : length (take all p) ≤ length lent-p
  pub placed : (after-d after-p : List ℕ) → after-d ≡ place lent-d 0 (take needed d) → after-p ≡ place lent-p 0 (take all p) →
      Record job lent-d lent-p r after-d after-p

module _ (job : Job) (lent-d lent-p : List ℕ) where
  number_of : (r : JobPrices) → r ≡ record_prices job (length lent-d) (length lent-p) → r.number ≡ record_number job (length lent-d) (length lent-p)
  unfolding record_prices
  number_of r e = ap (λ (x : JobPrices). x.number) e ∙ prices-number _ _ _ _

  -- a memory that is too short: nothing is written
  module _ (short : memory_cause job.steps (job_reversion job) (length lent-d) (length lent-p) ≡ 0 → ⊥) where
    short-number : record_number job (length lent-d) (length lent-p) ≡ 0 → ⊥
    short-number z = short (record-accepted job _ _ z).room

    short-kept : (rows memory after : List ℕ) → after ≡ fitted_memory job (length lent-d) (length lent-p) rows memory →
        after ≡ memory_after (record_number job (length lent-d) (length lent-p)) rows memory
    unfolding fitted_memory fit_memory
    short-kept rows memory after e =
        let low = short-refused job (length lent-d) (length lent-p) short in
        let number = record_fit job (length lent-d) (length lent-p) in
        let same = either (eqb (option_form job.option.tag job.option.count) 0) memory in
        e ∙ rw (ne_eqb number 0 low.0, ne_eqb number 9 (λ nine. absurd (omega (arith, low.1))), same) (fits.memory_kept _ rows memory short-number)
      where
        either : (t : Bool) (l : List ℕ) → cond t l l ≡ l
        either true l = refl
        either false l = refl

    pub short-left : (r : JobPrices) (after-d after-p : List ℕ) → InPlace job lent-d lent-p r after-d after-p →
        Record job lent-d lent-p r after-d after-p
    short-left r after-d after-p (e, (ed, ep)) = (e, (short-kept _ lent-d after-d ed, short-kept _ lent-p after-p ep))

  -- memories that are long enough
  module _ (long : memory_cause job.steps (job_reversion job) (length lent-d) (length lent-p) ≡ 0) (d₀ p₀ : List ℕ) (ld : length d₀ ≡ most_discounts)
      (lp : length p₀ ≡ most_state_prices) (r : JobPrices) (d p : List ℕ) (own : InPlace job d₀ p₀ r d p) where
    same_number : record_number job (length d₀) (length p₀) ≡ record_number job (length lent-d) (length lent-p)
    unfolding record_number
    same_number = rw (ld, lp, memory-widest job.steps (job_reversion job), long)

    same-prices : record_prices job (length d₀) (length p₀) ≡ record_prices job (length lent-d) (length lent-p)
    unfolding record_prices
    same-prices = rw same_number

    answer-is : r ≡ record_prices job (length lent-d) (length lent-p)
    answer-is = own.0 ∙ same-prices

    pub apart-refused : (r.number ≡ 0 → ⊥) → Record job lent-d lent-p r lent-d lent-p
    apart-refused nz = left-refused _ _ _ _ lent-d lent-p r answer-is (λ z. nz (number_of r answer-is ∙ z))

    module _ (z : r.number ≡ 0) where
      none : record_number job (length lent-d) (length lent-p) ≡ 0
      none = sym (number_of r answer-is) ∙ z

      own-fit : record_fit job (length d₀) (length p₀) ≡ 0
      own-fit = ap (λ (k : ℕ). record_fit job k (length p₀)) ld ∙ ap (record_fit job most_discounts) lp ∙ (record-accepted job _ _ none).fit

      pub tree-within : WithinLimits job.steps (job_reversion job)
      tree-within = fits.accepted job _ _ own-fit

      own-placed : (rows memory after : List ℕ) → after ≡ fitted_memory job (length d₀) (length p₀) rows memory → after ≡ place memory 0 rows
      own-placed rows memory after e = e ∙ fitted-placed job _ _ (record-formed job _ _ none) own-fit rows memory

      module _ (b : ℕ) (eb : b ≡ job_reversion job) (needed all : Answer) (en : needed ≡ discounts_needed_answer job.steps b)
          (ea : all ≡ state_prices_needed_answer job.steps b) where
        discounts-size : length (job_discounts job) ≡ needed.value
        discounts-size = fits.discounts-length job ∙ sym (tree-value _ _ _ needed (en ∙ ap (discounts_needed_answer job.steps) eb) tree-within)

        prices-size : length (job_state_prices job) ≡ all.value
        prices-size = fits.prices-length job ∙ sym (tree-value _ _ _ all (ea ∙ ap (state_prices_needed_answer job.steps) eb) tree-within)

        own-discounts : take needed.value d ≡ job_discounts job
        own-discounts = ap (take needed.value) (own-placed _ d₀ d own.1.0) ∙ place-front d₀ (job_discounts job) needed.value discounts-size

        own-prices : take all.value p ≡ job_state_prices job
        own-prices = ap (take all.value) (own-placed _ p₀ p own.1.1) ∙ place-front p₀ (job_state_prices job) all.value prices-size

        discounts-counted : needed.value ≡ length (take needed.value d)
        discounts-counted = sym (ap length own-discounts ∙ discounts-size)

        prices-counted : all.value ≡ length (take all.value p)
        prices-counted = sym (ap length own-prices ∙ prices-size)

        enough : (needed.value ≤ length lent-d) × (all.value ≤ length lent-p)
        enough =
            let m = memory-none job.steps (job_reversion job) (length lent-d) (length lent-p) long in
            (rw (en ∙ ap (discounts_needed_answer job.steps) eb) m.0, rw (ea ∙ ap (state_prices_needed_answer job.steps) eb) m.1)

        pub apart : Apart job lent-d lent-p d p needed.value all.value r
        apart =
            record {
              discounts-end = omega (arith, discounts-counted, length-take needed.value d);
              discounts-count = discounts-counted;
              discounts-fit = omega (arith, discounts-counted, enough.0);
              prices-end = omega (arith, prices-counted, length-take all.value p);
              prices-count = prices-counted;
              prices-fit = omega (arith, prices-counted, enough.1);
              placed = λ after-d after-p ed ep.
                  left-placed _ _ _ _ lent-d lent-p r answer-is after-d after-p none
                  (ed ∙ ap (place lent-d 0) own-discounts) (ep ∙ ap (place lent-p 0) own-prices);
            }

-- ---- the prices of a job's bytes

-- what the prices of a job's bytes leave
abbrev pub Bytes : List ℕ → List ℕ → List ℕ → JobPrices → List ℕ → List ℕ → Type 0
Bytes bytes d p =
    Left (bytes_number bytes (length d) (length p)) (bytes_prices bytes (length d) (length p))
    (job_discounts (reading_of bytes).job) (job_state_prices (reading_of bytes).job) d p

abbrev pub BytesInPlace : List ℕ → List ℕ → List ℕ → JobPrices → List ℕ → List ℕ → Type 0
BytesInPlace bytes d p r after-d after-p =
    (r ≡ bytes_prices bytes (length d) (length p))
    × ((after-d ≡ bytes_memory bytes (length d) (length p) job_discounts d) × (after-p ≡ bytes_memory bytes (length d) (length p) job_state_prices p))

module _ (bytes d p : List ℕ) (q : Reading) (e : q ≡ reading_of bytes) where
  number_read : q.number ≡ (reading_of bytes).number
  number_read = ap (λ (q : Reading). q.number) e

  module _ (nz : q.number ≡ 0 → ⊥) where
    read_found : q.number ≡ bytes_number bytes (length d) (length p)
    unfolding bytes_number first_cause
    read_found = rw (← number_read, ne_eqb q.number 0 nz)

    pub bytes-refused : (r : JobPrices) → r ≡ refused_prices q.number → Bytes bytes d p r d p
    unfolding bytes_prices
    bytes-refused = found_left implied read_found nz

    bytes-kept : (rows : Job → List ℕ) (memory : List ℕ) → memory ≡ bytes_memory bytes (length d) (length p) rows memory
    unfolding bytes_memory
    bytes-kept rows memory = sym (unless-refused _ _ memory (λ z. nz (number_read ∙ z)))

    pub in-place-refused : (r : JobPrices) → r ≡ refused_prices q.number → BytesInPlace bytes d p r d p
    unfolding bytes_prices
    in-place-refused r given = (number-given q.number _ _ _ _ read_found nz r given, (bytes-kept job_discounts d, bytes-kept job_state_prices p))

  module _ (z : q.number ≡ 0) where
    bytes-number : record_number (reading_of bytes).job (length d) (length p) ≡ bytes_number bytes (length d) (length p)
    unfolding bytes_number first_cause
    bytes-number = rw (← number_read, eq-eqb q.number 0 z)

    bytes-prices : record_prices (reading_of bytes).job (length d) (length p) ≡ bytes_prices bytes (length d) (length p)
    unfolding bytes_prices record_prices
    bytes-prices = rw bytes-number

    pub bytes-made : (r : JobPrices) (after-d after-p : List ℕ) → Record q.job d p r after-d after-p → Bytes bytes d p r after-d after-p
    bytes-made r after-d after-p made =
        rw (← bytes-number, ← bytes-prices) (subst (λ (x : Reading). Record x.job d p r after-d after-p) e made)

    bytes_left_lem : (rows : Job → List ℕ) (memory after : List ℕ) →
        after ≡ fitted_memory (reading_of bytes).job (length d) (length p) (rows (reading_of bytes).job) memory →
        after ≡ bytes_memory bytes (length d) (length p) rows memory
    unfolding bytes_memory
    bytes_left_lem rows memory after left = left ∙ sym (unless-accepted _ _ memory (sym number_read ∙ z))

    pub in-place-made : (r : JobPrices) (after-d after-p : List ℕ) → InPlace q.job d p r after-d after-p → BytesInPlace bytes d p r after-d after-p
    in-place-made r after-d after-p made =
        let read = subst (λ (x : Reading). InPlace x.job d p r after-d after-p) e made in
        (read.0 ∙ bytes-prices, (bytes_left_lem job_discounts d after-d read.1.0, bytes_left_lem job_state_prices p after-p read.1.1))
