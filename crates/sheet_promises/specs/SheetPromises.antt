-- What a job's prices and a sheet without a refusal promise (document 01, demands 2 and 3, of what is printed): each number that it shows is an entry's answer
-- with number 0, and what the demands say of these answers holds of the sheet.
-- Assumes nothing.
use Rattle.std.specs.Prelude.{◌≡◌, true, cond, List, [], ◌∷◌, ◌++◌, ℕ, suc, ◌*◌, ◌^◌, ◌≤◌, ◌<◌, eqb, ltb}
use Rattle.arithmetic.specs.Rounding.{one}
use Rattle.arithmetic.specs.Row.{values, sum_of}
use Rattle.tree.specs.Tree.{unit}
use Rattle.lattice.specs.Shape.{node_count}
use Rattle.lattice.specs.RateTree.{node}
use Rattle.lent_tree.specs.LentTree.{stored, stored_row}
use Rattle.step_rate.specs.StepRate.{rate_answer}
use Rattle.state_price_bound.specs.ErrorBound.{state_price_error_bound_answer}
use Rattle.price_laws.specs.Exact.{exact_bond, exact_option, exact_dated, Accurate}
use Rattle.job_record.specs.declared.OptionRecord.{OptionRecord}
use Rattle.job_record.specs.declared.Job.{Job}
use Rattle.job_record.specs.Reader.{reading_of}
use Rattle.job_laws.specs.RecordFit.{job_reversion, job_quotes, job_discounts, job_state_prices, job_flows}
use Rattle.job_laws.specs.JobPrices.{has_option, option_dates, job_bond, job_option, record_prices, bytes_prices}
use Rattle.job_laws.specs.declared.JobPrices.{JobPrices}
use Rattle.text_laws.specs.Decimal.{sign_of}
use Rattle.text_laws.specs.Lines.{node_line}
use Rattle.node_lines.specs.Rows.{node_text}
use Rattle.sheet_laws.specs.TreeSheet.{node_lines, row_lines, price_lines}
use Rattle.sheet_laws.specs.WholeJob.{sheet_number, sheet_text, printed_text}
use Rattle.promises.specs.Promises.{Repriced, NoneAboveOne}
use Rattle.sheet_promises.specs.JobMeant.{JobMeant}

-- the line of node k of row i: its discount and the step rate of that discount, whose sign in the bytes is a minus exactly where the discount
-- is above one
pub record NodeShown (b : ℕ) (discounts : List ℕ) (i k : ℕ) : Type 0 where
  pub line :
      node_text i (stored_row b discounts i) k
      ≡ node_line i (node b i k) (stored b discounts i k) (rate_answer (stored b discounts i k)).value
  pub rated : (rate_answer (stored b discounts i k)).number ≡ 0
  pub sign : sign_of (rate_answer (stored b discounts i k)).value ≡ cond (ltb one (stored b discounts i k)) (45 ∷ []) []

-- the line of row i + 1: an error bound that the entry gives, and a quote within 300 of the sum of the row's state prices
pub record RowShown (n b : ℕ) (quotes discounts prices : List ℕ) (i : ℕ) : Type 0 where
  pub bounded : (state_price_error_bound_answer n b discounts (suc i)).number ≡ 0
  pub repriced : Repriced (values quotes i) (sum_of (stored_row b prices (suc i)))

-- the exact price of a job's option: of a kind and an expiry by tag 8, of a side and listed rows by tag 10
unfoldable pub exact_tagged : ℕ → ℕ → List ℕ → List ℕ → OptionRecord → ℕ
exact_tagged n b discounts flows option =
    cond (eqb option.tag 8) (exact_option n b discounts flows option.kind option.expiry option.strike)
    (exact_dated n b discounts flows option.kind (option_dates option) option.strike)

-- the sheet of a job
pub record SheetShown (job : Job) (text : List ℕ) : Type 0 where
  pub lines :
      text
      ≡ node_lines job.steps (job_reversion job) (job_discounts job)
      ++ (row_lines job.steps (job_reversion job) (job_quotes job) (job_discounts job) (job_state_prices job)
      ++ price_lines (job_bond job) (has_option job.option) (job_option job))
  pub nodes : (i k : ℕ) → i < job.steps → k < node_count (job_reversion job) i → NodeShown (job_reversion job) (job_discounts job) i k
  pub rows : (i : ℕ) → i < job.steps → RowShown job.steps (job_reversion job) (job_quotes job) (job_discounts job) (job_state_prices job) i
  pub bond-given : (job_bond job).number ≡ 0
  pub bond-near :
      Accurate (unit ^ job.steps) (job_bond job) (exact_bond job.steps (job_reversion job) (job_discounts job) (job_flows job))
  pub option-given : has_option job.option ≡ true → (job_option job).number ≡ 0
  pub option-near :
      has_option job.option ≡ true →
      Accurate (unit ^ job.steps) (job_option job)
      (exact_tagged job.steps (job_reversion job) (job_discounts job) (job_flows job) job.option)

-- demand 3 of a job's prices, from its record or its bytes: each within its bound of the exact price on the tree fitted to the job's quotes, which is
-- what the call leaves in the lent memories, and at most 2 a step where no discount of that tree is above one
pub record PricesPromised (job : Job) (prices : JobPrices) : Type 0 where
  pub bond-is : prices.bond ≡ job_bond job
  pub option_is : prices.option ≡ job_option job
  pub bond-given : prices.bond.number ≡ 0
  pub bond-near :
      Accurate (unit ^ job.steps) prices.bond (exact_bond job.steps (job_reversion job) (job_discounts job) (job_flows job))
  pub bond-a-step : NoneAboveOne job.steps (job_reversion job) (job_discounts job) → prices.bond.bound ≤ 2 * job.steps
  pub option-told : prices.has_option ≡ has_option job.option
  pub option-given : prices.has_option ≡ true → prices.option.number ≡ 0
  pub option-near :
      prices.has_option ≡ true →
      Accurate (unit ^ job.steps) prices.option
      (exact_tagged job.steps (job_reversion job) (job_discounts job) (job_flows job) job.option)
  pub option-a-step :
      prices.has_option ≡ true → NoneAboveOne job.steps (job_reversion job) (job_discounts job) → prices.option.bound ≤ 2 * job.steps

-- A job: what its record means; and its prices, from the record and from the bytes, in lent memories of so many numbers.
pub record JobPromises : Type 0 where
  pub meant : (job : Job) → JobMeant job
  pub records : (job : Job) (discounts prices : ℕ) → (record_prices job discounts prices).number ≡ 0 →
      PricesPromised job (record_prices job discounts prices)
  pub jobs : (bytes : List ℕ) (discounts prices : ℕ) → (bytes_prices bytes discounts prices).number ≡ 0 →
      ((reading_of bytes).number ≡ 0) × PricesPromised (reading_of bytes).job (bytes_prices bytes discounts prices)

-- The printed bytes of a job's sheet, in a lent room of so many bytes.
pub record SheetPromises : Type 0 where
  pub sheets : (bytes : List ℕ) (room : ℕ) → sheet_number bytes room ≡ 0 →
      (printed_text bytes room ≡ sheet_text bytes) × SheetShown (reading_of bytes).job (sheet_text bytes)
