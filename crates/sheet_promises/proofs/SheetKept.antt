-- Every sheet without a refusal keeps its promises, and so do a job's prices.
-- Assumes nothing.
use mathlib.Core.Path.{◌≡◌, refl, sym, ap, ap₂, ◌∙◌}
use mathlib.Core.Bool.{Bool, true, false, cond}
use mathlib.Core.List.{List, [], ◌∷◌}
use Prim.Native.Nat.{ℕ, suc, ◌*◌, ◌+◌, ◌/◌, ◌^◌, ◌≤◌, ◌<◌}
use native.Mathlib.Omega.{arith}
use lib.Dec.{eqb, ltb}
use lib.IntN.{ℤ, pos}
use lib.ListN.{length}
use lib.Signed.{lt_z}
use borrow.Author.Tests.{eq-eqb}
use Rattle.arithmetic.proofs.Numbers.{by-test}
use Rattle.arithmetic.specs.Rounding.{one}
use Rattle.arithmetic.specs.Row.{values}
use Rattle.arithmetic.proofs.RowLaws.{values-row}
use Rattle.arithmetic.proofs.PartLaws.{part-value}
use Rattle.arithmetic.proofs.Implied.{implied}
use Rattle.tree.specs.Tree.{unit}
use Rattle.limits.specs.Limits.{most_discounts, most_state_prices}
use Rattle.lattice.specs.Shape.{half_width, node_count, row_start}
use Rattle.lattice.specs.RateTree.{node_of_index, node}
use Rattle.lattice.proofs.Sizes.{row_ends}
use Rattle.lent_tree.specs.LentTree.{Accepted, stored, stored_row}
use Rattle.lent_tree.proofs.LentLaws.{accepted}
use Rattle.curve.specs.Curve.{discount_at}
use Rattle.step_rate.specs.StepRate.{rate_answer}
use Rattle.step_rate.specs.declared.Rate.{Rate}
use Rattle.step_rate.proofs.RateLaws.{answer-known}
use Rattle.fitted_laws.specs.Entry.{fit_state_price}
use Rattle.fitted_laws.proofs.FittedTree.{fit-discounts-lent}
use Rattle.price_laws.specs.Exact.{Accurate}
use Rattle.price_laws.specs.declared.Price.{Price}
use Rattle.job_record.specs.declared.OptionRecord.{OptionRecord}
use Rattle.job_record.specs.declared.Job.{Job}
use Rattle.job_record.specs.Reader.{reading_of}
use Rattle.job_laws.specs.RecordFit.{meant_reversion, job_reversion, job_spacing, job_rows, job_kinds, job_figures, job_quotes, job_discounts, job_state_prices, job_flows}
use Rattle.job_laws.specs.JobPrices.{has_option, tagged_option, job_bond, job_option, prices_of, record_number, record_prices, bytes_number, bytes_prices}
use Rattle.job_laws.proofs.PriceLaws.{prices-number}
use Rattle.job_laws.proofs.Accepted.{AcceptedRecord, record-accepted, bytes-accepted}
use Rattle.text_laws.specs.Decimal.{sign_of}
use Rattle.text_laws.specs.Lines.{node_line, line_of_node}
use Rattle.text_laws.proofs.Signs.{sign-negative, sign-none}
use Rattle.node_lines.specs.Rows.{node_text}
use Rattle.sheet_laws.specs.TreeSheet.{tree_sheet}
use Rattle.sheet_laws.specs.WholeJob.{job_text, sheet_number, sheet_text, printed_text}
use Rattle.sheet_laws.proofs.PartLaws.{part-size}
use Rattle.sheet_laws.proofs.FittedLaws.{total-row}
use Rattle.sheet_laws.proofs.Accepted.{AcceptedJob, sheet-accepted, job-accepted}
use Rattle.promises.specs.Promises.{NoneAboveOne}
use Rattle.promises.proofs.TreeKept.{tree-kept}
use Rattle.promises.proofs.Kept.{on-tree-kept}
use Rattle.sheet_promises.proofs.JobMeantKept.{job-meant}
use Rattle.sheet_promises.specs.SheetPromises.{NodeShown, RowShown, exact_tagged, SheetShown, PricesPromised, JobPromises, SheetPromises}

-- the sign of a printed rate
sign-shown : (v : ℕ) → (rate_answer v).number ≡ 0 → sign_of (rate_answer v).value ≡ cond (ltb one v) (45 ∷ []) []
sign-shown v z = go (ltb one v) refl
  where
    told : lt_z (rate_answer v).value (pos 0) ≡ ltb one v
    told = (tree-kept.sign-of-rates v z).0

    go : (t : Bool) → ltb one v ≡ t → sign_of (rate_answer v).value ≡ cond t (45 ∷ []) []
    go true e = sign-negative (rate_answer v).value (told ∙ e)
    go false e = sign-none (rate_answer v).value (told ∙ e)

-- an option that is priced is near its exact price, whichever tag it has
tagged-near : (n b : ℕ) (discounts flows : List ℕ) (option : OptionRecord) → (tagged_option n b discounts flows option).number ≡ 0 →
    Accurate (unit ^ n) (tagged_option n b discounts flows option) (exact_tagged n b discounts flows option)
unfolding tagged_option exact_tagged
tagged-near n b discounts flows option =
    go (eqb option.tag 8) _ _ _ _ ((on-tree-kept n b discounts flows).option-accurate _ _ _)
    ((on-tree-kept n b discounts flows).dated-accurate _ _ _)
  where
    go : (t : Bool) (p q : Price) (x y : ℕ) → (p.number ≡ 0 → Accurate (unit ^ n) p x) → (q.number ≡ 0 → Accurate (unit ^ n) q y) →
        (cond t p q).number ≡ 0 → Accurate (unit ^ n) (cond t p q) (cond t x y)
    go true p q x y near other z = near z
    go false p q x y near other z = other z

-- and its bound is at most 2 a step where no discount is above one
tagged-a-step : (n b : ℕ) (discounts flows : List ℕ) (option : OptionRecord) → (tagged_option n b discounts flows option).number ≡ 0 →
    NoneAboveOne n b discounts → (tagged_option n b discounts flows option).bound ≤ 2 * n
unfolding tagged_option
tagged-a-step n b discounts flows option =
    by-test (eqb option.tag 8) (λ (p : Price). p.number ≡ 0 → NoneAboveOne n b discounts → p.bound ≤ 2 * n) _ _
    (λ t. (on-tree-kept n b discounts flows).option-a-step _ _ _) (λ t. (on-tree-kept n b discounts flows).dated-a-step _ _ _)

-- half of a row's node count is its half width
half_of : (w : ℕ) → (2 * w + 1) / 2 ≡ w
half_of w = omega arith

module _ (n b : ℕ) (discounts : List ℕ) (a : Accepted n b discounts) (i k : ℕ) (hi : i < n) (hk : k < node_count b i) where
  row_room : row_start b i + node_count b i ≤ length discounts
  row_room = omega (arith, row_ends b i n hi, a.room)

  place-shown : node_of_index (length (stored_row b discounts i) / 2) k ≡ node b i k
  unfolding node_count
  place-shown = ap (λ (x : ℕ). node_of_index (x / 2) k) (part-size b i discounts row_room) ∙ ap (λ (w : ℕ). node_of_index w k) (half_of (half_width b i))

  discount-shown : values (stored_row b discounts i) k ≡ stored b discounts i k
  unfolding stored_row stored
  discount-shown = part-value discounts (row_start b i) (node_count b i) k hk

  node-shown : (rate_answer (stored b discounts i k)).number ≡ 0 → NodeShown b discounts i k
  unfolding node_text line_of_node
  node-shown z =
      record {
        line = ap₂ (λ (j : ℤ) (v : ℕ). node_line i j v (rate_answer v).value) place-shown discount-shown;
        rated = z;
        sign = sign-shown (stored b discounts i k) z;
      }

module _ (job : Job) (room : ℕ) (known : AcceptedJob job room) where
  abbrev n : ℕ
  n = job.steps

  abbrev b : ℕ
  b = job_reversion job

  abbrev h : ℕ
  h = job_spacing job

  -- an accepted fit is an accepted tree
  tree : Accepted n b (job_discounts job)
  unfolding job_discounts meant_reversion
  tree =
      accepted n b _
      (fit-discounts-lent implied known.fit)

  rated : (i k : ℕ) → i < n → k < node_count b i → (rate_answer (stored b (job_discounts job) i k)).number ≡ 0
  unfolding stored
  rated i k hi hk =
      let inside : row_start b i + k < row_start b n = omega (arith, row_ends b i n hi) in
      ap (λ (r : Rate). r.number)
      (answer-known (values (job_discounts job) (row_start b i + k)) (tree.positive _ inside) (tree.discounted _ inside))

  row-shown : (i : ℕ) → i < n → RowShown n b (job_quotes job) (job_discounts job) (job_state_prices job) i
  unfolding job_quotes job_discounts job_state_prices meant_reversion
  row-shown i hi =
      let f = job.frequency in
      let price = fit_state_price f n b h (job_kinds job) (job_figures job) in
      let near
      = tree-kept.quotes-repriced f n b _ h (job_rows job) (job_kinds job) (job_figures job) most_discounts most_state_prices known.fit i hi in
      let quote = values-row n i (discount_at f (job_kinds job) (job_figures job)) hi in
      record {
        bounded =
            (tree-kept.state-prices-near f n b _ h (job_rows job) (job_kinds job) (job_figures job) most_discounts most_state_prices known.fit
            (suc i) hi).0;
        repriced = rw (total-row b price (suc n) (suc i) (omega arith), quote) near;
      }

  option-number : has_option job.option ≡ true → (job_option job).number ≡ 0
  option-number e = rw e (known.option-priced e)

  pub job-shown : SheetShown job (job_text job)
  unfolding job_text tree_sheet
  job-shown =
      record {
        lines = refl;
        nodes = λ i k hi hk. node-shown n b (job_discounts job) tree i k hi hk (rated i k hi hk);
        rows = row-shown;
        bond-given = known.bond;
        bond-near = (on-tree-kept n b (job_discounts job) _).bond-accurate known.bond;
        option-given = option-number;
        option-near = λ e. rw e (tagged-near n b (job_discounts job) (job_flows job) job.option (known.option-priced e));
      }

-- every job whose sheet is not refused
pub sheet-kept : (bytes : List ℕ) (room : ℕ) → sheet_number bytes room ≡ 0 → SheetShown (reading_of bytes).job (sheet_text bytes)
sheet-kept bytes room z =
    job-shown (reading_of bytes).job room (job-accepted (reading_of bytes).job room (sheet-accepted bytes room z).1)

-- ---- a job's prices

-- all prices of a record without a cause
module _ (job : Job) (ds ps : ℕ) (known : AcceptedRecord job ds ps) where
  priced-whole : (number : ℕ) → number ≡ 0 → PricesPromised job (prices_of number (job_bond job) (has_option job.option) (job_option job))
  unfolding prices_of
  priced-whole number z =
      rw (eq-eqb number 0 z)
      (record {
        bond-is = refl;
        option_is = refl;
        bond-given = known.bond;
        bond-near = (on-tree-kept job.steps (job_reversion job) (job_discounts job) (job_flows job)).bond-accurate known.bond;
        bond-a-step = (on-tree-kept job.steps (job_reversion job) (job_discounts job) (job_flows job)).bond-a-step known.bond;
        option-told = refl;
        option-given = λ e. rw e (known.option-priced e);
        option-near = λ e. rw e (tagged-near job.steps (job_reversion job) (job_discounts job) (job_flows job) job.option (known.option-priced e));
        option-a-step = λ e. rw e (tagged-a-step job.steps (job_reversion job) (job_discounts job) (job_flows job) job.option (known.option-priced e));
      })

pub record-kept : (job : Job) (discounts prices : ℕ) → (record_prices job discounts prices).number ≡ 0 →
    PricesPromised job (record_prices job discounts prices)
unfolding record_prices
record-kept job ds ps z =
    let none : record_number job ds ps ≡ 0 = sym (prices-number _ _ _ _) ∙ z in
    priced-whole job ds ps (record-accepted job ds ps none) _ none

pub job-kept : (bytes : List ℕ) (discounts prices : ℕ) → (bytes_prices bytes discounts prices).number ≡ 0 →
    ((reading_of bytes).number ≡ 0) × PricesPromised (reading_of bytes).job (bytes_prices bytes discounts prices)
unfolding bytes_prices
job-kept bytes ds ps z =
    let none : bytes_number bytes ds ps ≡ 0 = sym (prices-number _ _ _ _) ∙ z in
    let parts = bytes-accepted bytes ds ps none in
    (parts.0, priced-whole (reading_of bytes).job ds ps parts.1 _ none)

-- what is printed of a sheet without a refusal is the sheet
printed-whole : (bytes : List ℕ) (room : ℕ) → sheet_number bytes room ≡ 0 → printed_text bytes room ≡ sheet_text bytes
unfolding printed_text
printed-whole bytes room z = rw (eq-eqb (sheet_number bytes room) 0 z)

pub jobs-kept : JobPromises
jobs-kept = record { meant = job-meant; records = record-kept; jobs = job-kept }

pub sheets-kept : SheetPromises
sheets-kept = record { sheets = λ bytes room z. (printed-whole bytes room z, sheet-kept bytes room z) }
