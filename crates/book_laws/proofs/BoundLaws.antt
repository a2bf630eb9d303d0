-- THE PRICES OF A JOB ARE BOUNDED: its number is at most 13, its prices at most 8, the error bound of its bond at most 1,000,000.
-- Assumes nothing.
use mathlib.Core.Path.{◌≡◌, refl}
use mathlib.Core.Bool.{Bool, true, false, cond, not, ◌&&◌, ◌||◌}
use mathlib.Core.List.{List}
use Prim.Native.Nat.{ℕ, ◌*◌, ◌-◌, ◌≤◌, ◌<◌}
use native.Mathlib.Omega.{arith}
use lib.Dec.{eqb, leb, ltb}
use lib.Ieee.{Float}
use lib.ListN.{length}
use borrow.Author.Tests.{eq-eqb, ne_eqb}
use Rattle.arithmetic.proofs.CauseLaws.{first-most, first-none}
use Rattle.arithmetic.specs.declared.Answer.{Answer}
use Rattle.arithmetic.specs.Answers.{lowest_cause, refused, answered, first_cause}
use Rattle.arithmetic.specs.Frequency.{is_frequency}
use Rattle.arithmetic.specs.Rounding.{one}
use Rattle.arithmetic.specs.Row.{values, each, between}
use Rattle.arithmetic.proofs.Numbers.{by_equal, by-test}
use Rattle.arithmetic.proofs.Implied.{Implied, implied, lastly, ◌▸◌}
use Rattle.limits.specs.Limits.{value_limit, most_steps, most_reversion, most_discounts, most_state_prices, is_steps, is_reversion, shape_cause, limit_cause}
use Rattle.limits.proofs.LimitLaws.{limit-accepted}
use Rattle.lattice.specs.RateTree.{rate_tree}
use Rattle.lattice.specs.Shape.{half_width, node_count, discounts_needed}
use Rattle.lattice.specs.Entries.{about_tree, discounts_needed_answer, state_prices_needed_answer, memory_cause}
use Rattle.lattice.proofs.RateTreeLaws.{rate-tree-sound}
use Rattle.lent_tree.specs.LentTree.{stored, accepted_discounts, discounts_cause, Accepted}
use Rattle.reversion.specs.Reversion.{is_version}
use Rattle.spacing.specs.Spacing.{version_spacing, version_spacing_answer}
use Rattle.curve.specs.Curve.{in_place, converts_at, curve_number}
use Rattle.fitted_laws.specs.Fit.{curve_accepted}
use Rattle.fitted_laws.specs.Entry.{early_cause, late_cause, fitted_number, version_number}
use Rattle.pricing_laws.specs.Pricer.{Side, Schedule}
use Rattle.pricing_laws.specs.Schedule.{last_date, rising, dates_cause}
use Rattle.pricing_laws.specs.Peak.{peak, greatest_value}
use Rattle.pricing_laws.proofs.Peaks.{row-in-peak}
use Rattle.pricing_laws.proofs.PriceLaws.{row-greatest, error-bound-small}
use Rattle.price_causes.specs.Causes.{most_flow, most_strike, flows_cause, option_cause, terms_cause}
use Rattle.price_bound.proofs.BoundLaws.{discount-within}
use Rattle.price_bound.specs.PriceBound.{tree_error_bound}
use Rattle.price_laws.specs.declared.Price.{Price}
use Rattle.price_laws.specs.Prices.{tree_cause, priced, bond_value, bond_peak, bond_price, option_value}
use Rattle.price_laws.specs.Prices.{option_peak, option_limit, scheduled_price, option_price, dated_cause, dated_price}
use Rattle.price_laws.proofs.Accuracy.{tree_lent, bond-given, option-given, dated-given}
use Rattle.job_record.specs.declared.Job.{Job}
use Rattle.job_record.specs.declared.OptionRecord.{OptionRecord}
use Rattle.job_record.specs.declared.Reading.{Reading}
use Rattle.job_record.specs.Reader.{reading_of}
use Rattle.job_record.specs.Form.{most_job_steps, most_dates, well_formed}
use Rattle.job_laws.specs.RecordFit.{job_reversion, job_flows, job_discounts, record_fit}
use Rattle.job_laws.specs.JobPrices.{has_option, option_form, tagged_option, tree_number, record_number, bytes_number, bytes_prices, prices_of, job_option}
use Rattle.job_laws.proofs.Accepted.{AcceptedRecord, bytes-accepted}
use Rattle.book_laws.specs.Bounds.{job_prices, most_number, most_error_bound, Bounded}

-- ---- no cause is above 13

-- a choice of two numbers, and of two causes
chosen-most : (t : Bool) (x y k : ℕ) → x ≤ k → y ≤ k → cond t x y ≤ k
chosen-most true x y k h l = h
chosen-most false x y k h l = l

lowest-most : (a b k : ℕ) → a ≤ k → b ≤ k → lowest_cause a b ≤ k
unfolding lowest_cause
lowest-most a b k h l = chosen-most (eqb a 0) b _ k l (chosen-most (eqb b 0) a _ k h (omega arith))

-- the number of an answer by a test
number-most : (t : Bool) (x y : Answer) (k : ℕ) → x.number ≤ k → y.number ≤ k → (cond t x y).number ≤ k
number-most true x y k h l = h
number-most false x y k h l = l

shape-most : (n b : ℕ) → shape_cause n b ≤ most_number
unfolding shape_cause
shape-most n b = chosen-most (is_steps n) _ _ most_number (chosen-most (is_reversion b) 0 4 most_number (omega arith) (omega arith)) (omega arith)

limit-most : (value : ℕ) → limit_cause value ≤ most_number
unfolding limit_cause
limit-most value = chosen-most (ltb value_limit value) 12 0 most_number (omega arith) (omega arith)

memory-most : (n b discounts prices : ℕ) → memory_cause n b discounts prices ≤ most_number
unfolding memory_cause
memory-most n b discounts prices =
    chosen-most (leb (discounts_needed_answer n b).value discounts && leb (state_prices_needed_answer n b).value prices) 0 6 most_number (omega arith)
    (omega arith)

curve-most : (f n : ℕ) (rows kinds : List ℕ) (figures : List Float) (room : ℕ) → curve_number f n rows kinds figures room ≤ most_number
unfolding curve_number
curve-most f n rows kinds figures room =
    chosen-most (not (is_frequency f)) 2 _ most_number (omega arith)
    (chosen-most (not (is_steps n)) 3 _ most_number (omega arith)
    (chosen-most (not (in_place n rows kinds figures room)) 6 _ most_number (omega arith)
    (chosen-most (not (each n (converts_at f kinds figures))) 7 0 most_number (omega arith) (omega arith))))

needed-most : (n b : ℕ) → (discounts_needed_answer n b).number ≤ most_number
unfolding about_tree
needed-most n b = number-most (eqb (shape_cause n b) 0) (answered (discounts_needed n b)) (refused (shape_cause n b)) most_number (omega arith) (shape-most n b)

spacing-most : (v f s b : ℕ) → (version_spacing_answer v f s b).number ≤ most_number
unfolding version_spacing_answer
spacing-most v f s b =
    number-most (not (is_frequency f)) (refused 2) _ most_number (omega arith)
    (number-most (ltb most_reversion b) (refused 4) _ most_number (omega arith)
    (number-most (ltb 50000 s) (refused 5) _ most_number (omega arith)
    (number-most (not (is_version v)) (refused 7) (answered (version_spacing v f s b)) most_number (omega arith) (omega arith))))

early-most : (n w spaced quoted discounts prices : ℕ) → quoted ≤ most_number → spaced ≤ most_number →
    early_cause quoted n w spaced discounts prices ≤ most_number
unfolding early_cause
early-most n w spaced quoted discounts prices h l =
    lowest-most _ _ most_number (lowest-most _ _ most_number h (needed-most n w)) (lowest-most _ _ most_number l (memory-most n w discounts prices))

late-most : (n b h : ℕ) (quotes : List ℕ) → late_cause n b h quotes ≤ most_number
unfolding late_cause
late-most n b h quotes =
    chosen-most (ltb one (half_width b (n - 1) * h)) 8 _ most_number (omega arith)
    (chosen-most (curve_accepted b h quotes) 0 9 most_number (omega arith) (omega arith))

fitted-most : (f n w spaced h : ℕ) (rows kinds : List ℕ) (figures : List Float) (discounts prices : ℕ) → spaced ≤ most_number →
    fitted_number f n w spaced h rows kinds figures discounts prices ≤ most_number
unfolding fitted_number
fitted-most f n w spaced h rows kinds figures discounts prices l =
    chosen-most (eqb (early_cause (curve_number f n rows kinds figures most_steps) n w spaced discounts prices) 0) _ _ most_number (late-most n w h _)
    (early-most n w spaced _ discounts prices (curve-most f n rows kinds figures most_steps) l)

fit-most : {v f n b s : ℕ} {rows kinds : List ℕ} {figures : List Float} {discounts prices : ℕ} →
    Implied (v ▸ f ▸ n ▸ b ▸ s ▸ rows ▸ kinds ▸ figures ▸ discounts ▸ lastly prices) →
    version_number v f n b s rows kinds figures discounts prices ≤ most_number
fit-most {v} {f} {n} {b} {s} {rows} {kinds} {figures} {discounts} {prices} _ =
    fitted-most f n _ _ _ rows kinds figures discounts prices (spacing-most v f s b)

tree-most : (n b : ℕ) (discounts flows : List ℕ) → tree_cause n b discounts flows ≤ most_number
unfolding tree_cause discounts_cause flows_cause
tree-most n b discounts flows =
    lowest-most _ _ most_number
    (chosen-most (eqb (shape_cause n b) 0) _ _ most_number
    (chosen-most (leb (discounts_needed n b) (length discounts)) _ 6 most_number
    (chosen-most (accepted_discounts n b discounts) 0 9 most_number (omega arith) (omega arith)) (omega arith)) (shape-most n b))
    (chosen-most (eqb (length flows) n) _ 6 most_number
    (chosen-most (each (length flows) (between 0 most_flow (values flows))) 0 10 most_number (omega arith) (omega arith)) (omega arith))

-- a price has the number of its cause
priced-most : (number price bound : ℕ) → number ≤ most_number → (priced number price bound).number ≤ most_number
unfolding priced
priced-most number price bound h = go (eqb number 0)
  where
    go : (t : Bool) → (cond {A = Price} t (record { number = 0; value = price; bound = bound })
        (record { number = number; value = 0; bound = 0 })).number ≤ most_number
    go true = omega arith
    go false = h

bond-most : (n b : ℕ) (discounts flows : List ℕ) → (bond_price n b discounts flows).number ≤ most_number
unfolding bond_price
bond-most n b discounts flows = priced-most _ _ _ (first-most _ _ most_number (tree-most n b discounts flows) (limit-most _))

scheduled-most : (n b : ℕ) (discounts flows : List ℕ) (side : Side) (strike : ℕ) (rows : Schedule) (cause : ℕ) → cause ≤ most_number →
    (scheduled_price n b discounts flows side strike rows cause).number ≤ most_number
unfolding option_limit
scheduled-most n b discounts flows side strike rows cause h =
    priced-most _ _ _ (first-most _ _ most_number (tree-most n b discounts flows) (first-most _ _ most_number h (limit-most _)))

kind-most : (n kind expiry strike : ℕ) → option_cause n kind expiry strike ≤ most_number
unfolding option_cause
kind-most n kind expiry strike = chosen-most (leb 1 kind && leb kind 4 && ltb expiry n && leb strike most_strike) 0 11 most_number (omega arith) (omega arith)

dated-most : (n side : ℕ) (dates : List ℕ) (strike : ℕ) → dated_cause n side dates strike ≤ most_number
unfolding dated_cause terms_cause dates_cause
dated-most n side dates strike =
    lowest-most _ _ most_number (chosen-most (leb 1 side && leb side 2 && leb strike most_strike) 0 11 most_number (omega arith) (omega arith))
    (chosen-most (ltb 0 (length dates) && (rising dates && ltb (last_date dates) n)) 0 13 most_number (omega arith) (omega arith))

tagged-most : (n b : ℕ) (discounts flows : List ℕ) (option : OptionRecord) → (tagged_option n b discounts flows option).number ≤ most_number
unfolding tagged_option option_price dated_price
tagged-most n b discounts flows option =
    by-test (eqb option.tag 8) (λ (p : Price). p.number ≤ most_number) _ _
    (λ t. scheduled-most n b discounts flows _ _ _ _ (kind-most n _ _ _)) (λ t. scheduled-most n b discounts flows _ _ _ _ (dated-most n _ _ _))

tree-number-most : {n b : ℕ} {discounts flows : List ℕ} {option : OptionRecord} → Implied (n ▸ b ▸ discounts ▸ flows ▸ lastly option) →
    tree_number n b discounts flows option ≤ most_number
unfolding tree_number
tree-number-most {n} {b} {discounts} {flows} {option} _ = go (has_option option)
  where
    go : (t : Bool) → cond t (cond {A = Price} t (tagged_option n b discounts flows option) (record { number = 0; value = 0; bound = 0 })).number
        (bond_price n b discounts flows).number ≤ most_number
    go true = tagged-most n b discounts flows option
    go false = bond-most n b discounts flows

record-most : (job : Job) (discounts prices : ℕ) → record_number job discounts prices ≤ most_number
unfolding record_number option_form record_fit
record-most job discounts prices =
    first-most _ _ most_number
    (chosen-most (leb job.option.count most_dates && (eqb job.option.tag 0 || (eqb job.option.tag 8 || eqb job.option.tag 10))) 0 1 most_number
    (omega arith) (omega arith))
    (first-most _ _ most_number
    (lowest-most _ _ most_number (chosen-most (ltb most_job_steps job.steps) 1 _ most_number (omega arith) (fit-most implied)) (memory-most _ _ _ _))
    (tree-number-most implied))

reading-most : (bytes : List ℕ) → (reading_of bytes).number ≤ most_number
unfolding reading_of
reading-most bytes = by-test (well_formed bytes) (λ (r : Reading). r.number ≤ most_number) _ _ (λ t. omega arith) (λ t. omega arith)

-- A JOB'S NUMBER IS AT MOST 13
pub number-few : (bytes : List ℕ) (discounts prices : ℕ) → bytes_number bytes discounts prices ≤ most_number
unfolding bytes_number
number-few bytes discounts prices = first-most _ _ most_number (reading-most bytes) (record-most _ discounts prices)

-- ---- no price is above 8

module _ (n b : ℕ) (discounts flows : List ℕ) where
  -- the value at the root is in the peak
  root-in-peak : (value : ℕ → ℕ → ℕ) (last : ℕ) → 0 < (rate_tree b).nodes 0 → value 0 0 ≤ peak (greatest_value (rate_tree b) value) last 0
  unfolding greatest_value
  root-in-peak value last h =
      omega (arith, (row-greatest (rate_tree b)).at_most 0 (value 0) 0 h, row-in-peak (λ i. greatest_value (rate_tree b) value i) last 0 (omega arith))

  rooted : Accepted n b discounts → 0 < (rate_tree b).nodes 0
  rooted a = omega (arith, (rate-tree-sound b a.limits.reversion-within-limit).root)

  module _ (z : (bond_price n b discounts flows).number ≡ 0) where
    pub bond-tree : Accepted n b discounts
    bond-tree = tree_lent n b discounts flows (first-none _ _ (bond-given n b discounts flows z).none).0

    pub bond-value-most : (bond_price n b discounts flows).value ≤ value_limit
    unfolding bond_peak
    bond-value-most =
        let g = bond-given n b discounts flows z in
        omega (arith, g.value, limit-accepted _ (first-none _ _ g.none).1, root-in-peak (bond_value n b discounts flows) n (rooted bond-tree))

    pub bond-bound-most : (bond_price n b discounts flows).bound ≤ most_error_bound
    unfolding tree_error_bound node_count rate_tree
    bond-bound-most =
        rw (bond-given n b discounts flows z).bound
        (error-bound-small (rate_tree b) (stored b discounts) n (λ r k hr hk. discount-within n b r hr discounts bond-tree k hk)
        bond-tree.limits.steps-within-limit 0 (omega arith))

  -- an option's value, where its cause and its limit are none
  scheduled-value : (side : Side) (strike : ℕ) (rows : Schedule) (cause : ℕ) →
      first_cause (tree_cause n b discounts flows) (first_cause cause (option_limit n b discounts flows side strike rows)) ≡ 0 →
      option_value n b discounts flows side strike rows 0 0 ≤ value_limit
  unfolding option_limit option_peak
  scheduled-value side strike rows cause z =
      let parts = first-none _ _ z in
      let a = tree_lent n b discounts flows parts.0 in
      omega (
        arith,
        limit-accepted _ (first-none _ _ parts.1).1,
        root-in-peak (option_value n b discounts flows side strike rows) rows.last (rooted a),
      )

  tagged-value-most : (option : OptionRecord) → (tagged_option n b discounts flows option).number ≡ 0 →
      (tagged_option n b discounts flows option).value ≤ value_limit
  unfolding tagged_option
  tagged-value-most option =
      by-test (eqb option.tag 8) (λ (p : Price). p.number ≡ 0 → p.value ≤ value_limit) _ _
      (λ t z. let g = option-given n b discounts flows _ _ _ z in omega (arith, g.value, scheduled-value _ _ _ _ g.none))
      (λ t z. let g = dated-given n b discounts flows _ _ _ z in omega (arith, g.value, scheduled-value _ _ _ _ g.none))

-- ---- the prices of a job

module _ (job : Job) (discounts prices : ℕ) (a : AcceptedRecord job discounts prices) where
  option-value-most : (job_option job).value ≤ value_limit
  option-value-most = go (has_option job.option) refl
    where
      go : (t : Bool) → has_option job.option ≡ t →
          (cond {A = Price} t (tagged_option job.steps (job_reversion job) (job_discounts job) (job_flows job) job.option)
          (record { number = 0; value = 0; bound = 0 })
          ).value ≤ value_limit
      go true e = tagged-value-most job.steps (job_reversion job) _ _ job.option (a.option-priced e)
      go false e = omega arith

prices-most : (number : ℕ) (bond : Price) (present : Bool) (option : Price) → number ≤ most_number →
    (number ≡ 0 → (bond.value ≤ value_limit) × (bond.bound ≤ most_error_bound) × (option.value ≤ value_limit)) →
    Bounded (prices_of number bond present option)
unfolding prices_of
prices-most number bond present option h f =
    by_equal number 0
    (λ z. let g = f z in
    rw (eq-eqb number 0 z) (record { number = omega arith; bond = g.0; bound = g.1; option = g.2 }))
    (λ nz. rw (ne_eqb number 0 nz) (record { number = h; bond = omega arith; bound = omega arith; option = omega arith }))

-- WHAT A BOOK LEANS ON
pub bounded : (job : List ℕ) → Bounded (job_prices job)
unfolding job_prices bytes_prices
bounded job =
    prices-most (bytes_number job most_discounts most_state_prices) _ _ _ (number-few job most_discounts most_state_prices)
    (λ z. let a = (bytes-accepted job most_discounts most_state_prices z).1 in
    (bond-value-most _ _ _ _ a.bond, bond-bound-most _ _ _ _ a.bond, option-value-most _ most_discounts most_state_prices a))
