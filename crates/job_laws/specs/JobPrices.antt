-- The prices of a job (document 01, Prices; When the engine declines): fit, bond and option, the lowest number of all but 13 before 12, and the lent
-- tree memories.
-- Assumes nothing.
use Rattle.std.specs.Prelude.{ℕ, Bool, false, cond, not, ◌&&◌, ◌||◌, List, eqb, leb, take}
use Rattle.lattice.specs.Entries.{memory_cause}
use Rattle.arithmetic.specs.Answers.{unless_refused, lowest_cause, first_cause}
use Rattle.limits.specs.Limits.{most_discounts, most_state_prices}
use Rattle.fitted_laws.specs.Entry.{fit_memory}
use Rattle.price_laws.specs.declared.Price.{Price}
use Rattle.price_laws.specs.Prices.{refused_price, bond_price, option_price, dated_price}
use Rattle.job_record.specs.declared.OptionRecord.{OptionRecord}
use Rattle.job_record.specs.declared.Job.{Job}
use Rattle.job_record.specs.Form.{most_dates}
use Rattle.job_record.specs.Reader.{reading_of}
use Rattle.job_laws.specs.RecordFit.{job_reversion, job_flows, job_discounts, record_fit}
use Rattle.job_laws.specs.declared.JobPrices.{JobPrices}

-- tag 0 stands for no option
abbrev pub has_option : OptionRecord → Bool
has_option option = not (eqb option.tag 0)

-- 1: no job's bytes give another tag than 0, 8 or 10, or more dates than a job has room for
unfoldable pub option_form : ℕ → ℕ → ℕ
option_form tag count = cond (leb count most_dates && (eqb tag 0 || (eqb tag 8 || eqb tag 10))) 0 1

-- the rows that an option lists
abbrev pub option_dates : OptionRecord → List ℕ
option_dates option = take option.count option.dates

-- an option by its tag: 8 has a kind and an expiry, 10 a side and listed rows
unfoldable pub tagged_option : ℕ → ℕ → List ℕ → List ℕ → OptionRecord → Price
tagged_option n b discounts flows option =
    cond (eqb option.tag 8) (option_price n b discounts flows option.kind option.expiry option.strike)
    (dated_price n b discounts flows option.kind (option_dates option) option.strike)

-- the option of a tree whose discounts are lent; zeros for none
abbrev pub tree_option : ℕ → ℕ → List ℕ → List ℕ → OptionRecord → Price
tree_option n b discounts flows option = cond (has_option option) (tagged_option n b discounts flows option) (refused_price 0)

-- causes 10 to 13: the number of the option, which judges all that the bond's does; of the bond where there is none
unfoldable pub tree_number : ℕ → ℕ → List ℕ → List ℕ → OptionRecord → ℕ
tree_number n b discounts flows option =
    cond (has_option option) (tree_option n b discounts flows option).number (bond_price n b discounts flows).number

-- a refusal's number with zeros
abbrev pub refused_prices : ℕ → JobPrices
refused_prices number = record { number = number; bond = refused_price 0; has_option = false; option = refused_price 0 }

-- all prices, or a refusal
unfoldable pub prices_of : ℕ → Price → Bool → Price → JobPrices
prices_of number bond present option =
    cond (eqb number 0) (record { number = 0; bond = bond; has_option = present; option = option }) (refused_prices number)

module _ (job : Job) where
  -- 1, then the lowest of causes 2 to 9 and of 6 for lent memories of so many numbers, then causes 10 to 13
  unfoldable pub record_number : ℕ → ℕ → ℕ
  record_number discounts prices =
      first_cause (option_form job.option.tag job.option.count)
      (first_cause
      (lowest_cause (record_fit job most_discounts most_state_prices) (memory_cause job.steps (job_reversion job) discounts prices))
      (tree_number job.steps (job_reversion job) (job_discounts job) (job_flows job) job.option))

  abbrev pub job_bond : Price
  job_bond = bond_price job.steps (job_reversion job) (job_discounts job) (job_flows job)

  abbrev pub job_option : Price
  job_option = tree_option job.steps (job_reversion job) (job_discounts job) (job_flows job) job.option

  unfoldable pub record_prices : ℕ → ℕ → JobPrices
  record_prices discounts prices = prices_of (record_number discounts prices) job_bond (has_option job.option) job_option

  -- a memory in which the record is fitted and priced: as it was where the option has no job's form, else as the fit leaves it, whatever the prices are
  unfoldable pub fitted_memory : ℕ → ℕ → List ℕ → List ℕ → List ℕ
  fitted_memory discounts prices rows memory =
      unless_refused (option_form job.option.tag job.option.count) (fit_memory (record_fit job discounts prices) rows memory) memory

-- of a job's bytes: 1 first
unfoldable pub bytes_number : List ℕ → ℕ → ℕ → ℕ
bytes_number bytes discounts prices = first_cause (reading_of bytes).number (record_number (reading_of bytes).job discounts prices)

unfoldable pub bytes_prices : List ℕ → ℕ → ℕ → JobPrices
bytes_prices bytes discounts prices =
    prices_of (bytes_number bytes discounts prices) (job_bond (reading_of bytes).job) (has_option (reading_of bytes).job.option) (job_option (reading_of bytes).job)

-- a memory in which a job's bytes are fitted and priced: as it was where they are no job's
unfoldable pub bytes_memory : List ℕ → ℕ → ℕ → (Job → List ℕ) → List ℕ → List ℕ
bytes_memory bytes discounts prices rows memory =
    unless_refused (reading_of bytes).number (fitted_memory (reading_of bytes).job discounts prices (rows (reading_of bytes).job) memory) memory
