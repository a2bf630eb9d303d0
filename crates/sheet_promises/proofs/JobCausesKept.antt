-- A job has the number that is promised.
-- Assumes nothing.
use mathlib.Core.Path.{◌≡◌, refl, sym, ap, ap₂, ◌∙◌}
use mathlib.Core.Bool.{Bool, true, false, not, cond, ◌&&◌, and-true, and_assoc}
use mathlib.Core.List.{List, [], ◌∷◌}
use Prim.Native.Nat.{ℕ, suc, ◌-◌, ◌*◌, ◌≤◌}
use native.Mathlib.Nat.{mul-le-mul, le_trans}
use native.Mathlib.Omega.{arith}
use borrow.Author.Tests.{leb-true, le-leb}
use lib.Dec.{leb, ltb}
use lib.Ieee.{Float}
use Rattle.limits.specs.WithinLimits.{WithinLimits}
use Rattle.arithmetic.specs.Answers.{lowest_cause, first_cause}
use Rattle.arithmetic.specs.Rounding.{one}
use Rattle.arithmetic.specs.Frequency.{is_frequency}
use Rattle.arithmetic.proofs.Numbers.{by-test}
use Rattle.arithmetic.proofs.BetweenLaws.{and_left, and_right}
use Rattle.limits.specs.Limits.{most_discounts, most_state_prices, is_steps, is_reversion, is_discount}
use Rattle.lattice.specs.Shape.{half_width, row_start, discounts_needed, state_prices_needed}
use Rattle.lattice.specs.Entries.{discounts_needed_answer, state_prices_needed_answer, memory_cause}
use Rattle.lattice.proofs.Sizes.{start-most, start-within}
use Rattle.lattice.proofs.TreeEntries.{tree-value}
use Rattle.reversion.specs.Reversion.{is_version, working_reversion}
use Rattle.reversion.proofs.ReversionLaws.{working-limit}
use Rattle.spacing.specs.Spacing.{version_spacing}
use Rattle.fitted_laws.specs.Entry.{version_number, fit_discount}
use Rattle.job_record.specs.declared.Job.{Job}
use Rattle.job_record.specs.Form.{well_formed}
use Rattle.job_record.specs.Reader.{reading_of, job_of, accepted_reading, malformed}
use Rattle.job_record.specs.declared.Reading.{Reading}
use Rattle.job_laws.specs.RecordFit.{meant_version, meant_reversion, job_rows, job_kinds, job_figures, record_fit}
use Rattle.job_laws.specs.JobPrices.{has_option, option_form, tree_number, job_bond, job_option, record_number, record_prices, bytes_number, bytes_prices}
use Rattle.job_laws.proofs.PriceLaws.{prices-number}
use Rattle.sheet_room.specs.Room.{sheet_room}
use Rattle.sheet_laws.specs.WholeJob.{room_cause, job_number, sheet_number}
use Rattle.promises.specs.Causes.{cause, first_of, quotes_placed, quotes_converted, every_node}
use Rattle.promises.proofs.CausesKept.{causes-kept}
use Rattle.sheet_promises.specs.JobCauses.{option_formed, JobCauses}

-- ---- a fit in memories of its own, and the lent ones beside it

-- 6 to 9 of a fit beside 6 for a lent memory
tail : Bool → Bool → Bool → Bool → Bool → ℕ
tail c k q w x = cond (not c) 6 (cond (not k) 7 (cond (not q) 7 (cond w 8 (cond x 9 0))))

beside : (c k q w x m : Bool) → lowest_cause (tail c k q w x) (cond m 0 6) ≡ tail (c && m) k q w x
unfolding tail lowest_cause
beside false k q w x true = refl
beside false k q w x false = refl
beside true false q w x true = refl
beside true false q w x false = refl
beside true true false w x true = refl
beside true true false w x false = refl
beside true true true true x true = refl
beside true true true true x false = refl
beside true true true false true true = refl
beside true true true false true false = refl
beside true true true false false true = refl
beside true true true false false false = refl

-- 2 to 5 come first, whatever the memories are
merged : (l s r v c k q w x m d : Bool) → (s ≡ true → r ≡ true → c && m ≡ d) →
    lowest_cause (cond (not l) 2 (cond (not s) 3 (cond (not r) 4 (cond v 5 (tail c k q w x))))) (cond m 0 6)
    ≡ cond (not l) 2 (cond (not s) 3 (cond (not r) 4 (cond v 5 (tail d k q w x))))
unfolding lowest_cause
merged false s r v c k q w x true d e = refl
merged false s r v c k q w x false d e = refl
merged true false r v c k q w x true d e = refl
merged true false r v c k q w x false d e = refl
merged true true false v c k q w x true d e = refl
merged true true false v c k q w x false d e = refl
merged true true true true c k q w x true d e = refl
merged true true true true c k q w x false d e = refl
merged true true true false c k q w x m d e = beside c k q w x m ∙ ap (λ (t : Bool). tail t k q w x) (e refl refl)

module _ (v f n b s : ℕ) (rows kinds : List ℕ) (figures : List Float) (discounts prices : ℕ) where
  abbrev w : ℕ
  w = working_reversion v b

  abbrev h : ℕ
  h = version_spacing v f s b

  held : Bool
  held = leb (discounts_needed_answer n w).value discounts && leb (state_prices_needed_answer n w).value prices

  module _ (es : is_steps n ≡ true) (er : is_reversion b ≡ true) where
    most : n ≤ 60
    most = leb-true n 60 (and_right (leb 1 n) (leb n 60) es)

    accepted : WithinLimits n w
    accepted =
        let least : 1 ≤ n = leb-true 1 n (and_left (leb 1 n) (leb n 60) es) in
        record { steps-positive = omega arith; steps-within-limit = most; reversion-within-limit = working-limit v b (leb-true b 6000 er) }

    held-alike : held ≡ leb (row_start w n) discounts && leb (row_start w (suc n)) prices
    unfolding held discounts_needed state_prices_needed
    held-alike =
        ap₂ (λ (x y : ℕ). leb x discounts && leb y prices) (tree-value n w (row_start w n) (discounts_needed_answer n w) refl accepted)
        (tree-value n w (row_start w (suc n)) (state_prices_needed_answer n w) refl accepted)

    largest : quotes_placed n rows kinds figures && leb (row_start w n) 3600 && leb (row_start w (suc n)) 3721 ≡ quotes_placed n rows kinds figures
    largest =
        rw (
          le-leb (row_start w n) 3600 (le_trans (start-most w n) (mul-le-mul most most)),
          le-leb (row_start w (suc n)) 3721
              (start-within w (suc n) (omega (arith, most))),
          and-true (quotes_placed n rows kinds figures),
        ) (and-true (quotes_placed n rows kinds figures))

    lengths : quotes_placed n rows kinds figures && leb (row_start w n) 3600 && leb (row_start w (suc n)) 3721 && held
        ≡ quotes_placed n rows kinds figures && leb (row_start w n) discounts && leb (row_start w (suc n)) prices
    lengths =
        ap₂ ◌&&◌ largest held-alike
        ∙ sym (and_assoc (quotes_placed n rows kinds figures) (leb (row_start w n) discounts) (leb (row_start w (suc n)) prices))

  fit-lent :
      lowest_cause (version_number v f n b s rows kinds figures most_discounts most_state_prices) (memory_cause n w discounts prices)
      ≡ version_number v f n b s rows kinds figures discounts prices
  unfolding memory_cause first_of tail held
  fit-lent =
      rw (
        causes-kept.version-fit v f n b s rows kinds figures most_discounts most_state_prices,
        causes-kept.version-fit v f n b s rows kinds figures discounts prices,
      )
      (merged (is_frequency f) (is_steps n) (is_reversion b) (ltb 50000 s)
      (quotes_placed n rows kinds figures && leb (row_start w n) 3600 && leb (row_start w (suc n)) 3721) (is_version v) (quotes_converted f n kinds figures)
      (ltb one (half_width w (n - 1) * h)) (not (every_node w n (λ i k. is_discount (fit_discount f n w h kinds figures i k)))) held _ lengths)

-- ---- records, bytes and sheets

module _ (job : Job) (discounts prices : ℕ) where
  abbrev fitted : ℕ → ℕ → ℕ
  fitted =
      version_number (meant_version job.version) job.frequency job.steps job.reversion job.volatility
      (job_rows job) (job_kinds job) (job_figures job)

  abbrev priced : ℕ
  priced = cond (has_option job.option) (job_option job).number (job_bond job).number

  record-causes :
      (record_prices job discounts prices).number
      ≡ first_cause (first_of (cause 1 (ltb 255 job.steps) ∷ cause 1 (not (option_formed job.option)) ∷ [])) (first_cause (fitted discounts prices) priced)
  unfolding record_prices record_number record_fit meant_reversion option_form tree_number memory_cause first_cause lowest_cause first_of held
  record-causes =
      prices-number _ _ _ _
      ∙ by_tests (option_formed job.option) (ltb 255 job.steps)
      (held (meant_version job.version) job.frequency job.steps job.reversion job.volatility
      (job_rows job) (job_kinds job) (job_figures job) discounts prices)
      (fit-lent (meant_version job.version) job.frequency job.steps job.reversion job.volatility
      (job_rows job) (job_kinds job) (job_figures job) discounts prices)
    where
      by_tests : (c t m : Bool) → lowest_cause (fitted most_discounts most_state_prices) (cond m 0 6) ≡ fitted discounts prices →
          first_cause (cond c 0 1) (first_cause (lowest_cause (cond t 1 (fitted most_discounts most_state_prices)) (cond m 0 6)) priced)
          ≡ first_cause (cond t 1 (cond (not c) 1 0)) (first_cause (fitted discounts prices) priced)
      by_tests false true m e = refl
      by_tests false false m e = refl
      by_tests true true true e = refl
      by_tests true true false e = refl
      by_tests true false m e = ap (λ (k : ℕ). first_cause k priced) e

-- the record of well-formed bytes, and 1 for any other
by_form : (bytes : List ℕ) (P : Reading → Type 0) → (well_formed bytes ≡ true → P (accepted_reading (job_of bytes))) →
    (well_formed bytes ≡ false → P malformed) → P (reading_of bytes)
unfolding reading_of
by_form bytes P formed other = by-test (well_formed bytes) P (accepted_reading (job_of bytes)) malformed formed other

bytes-causes : (bytes : List ℕ) (discounts prices : ℕ) →
    (bytes_prices bytes discounts prices).number
    ≡ first_cause (first_of (cause 1 (not (well_formed bytes)) ∷ [])) (record_prices (job_of bytes) discounts prices).number
unfolding bytes_prices bytes_number record_prices first_cause first_of
bytes-causes bytes discounts prices =
    prices-number _ _ _ _
    ∙ by_form bytes
    (λ (r : Reading). first_cause r.number (record_number r.job discounts prices)
    ≡ first_cause (cond (not (well_formed bytes)) 1 0) (record_prices (job_of bytes) discounts prices).number)
    (λ h. rw h (sym (prices-number _ _ _ _))) (λ h. rw h refl)

sheet-causes : (bytes : List ℕ) (room : ℕ) →
    sheet_number bytes room
    ≡ first_cause (first_of (cause 1 (not (well_formed bytes)) ∷ []))
    (lowest_cause (record_prices (job_of bytes) most_discounts most_state_prices).number (first_of (cause 6 (ltb room sheet_room) ∷ [])))
unfolding sheet_number job_number room_cause record_prices first_cause first_of
sheet-causes bytes room =
    by_form bytes
    (λ (r : Reading). first_cause r.number (job_number r.job room)
    ≡ first_cause (cond (not (well_formed bytes)) 1 0)
    (lowest_cause (record_prices (job_of bytes) most_discounts most_state_prices).number (cond (ltb room sheet_room) 6 0)))
    (λ h. rw h (ap (λ (k : ℕ). lowest_cause k (cond (ltb room sheet_room) 6 0)) (sym (prices-number _ _ _ _)))) (λ h. rw h refl)

pub job-causes-kept : JobCauses
job-causes-kept = record { records = record-causes; jobs = bytes-causes; sheets = sheet-causes }
