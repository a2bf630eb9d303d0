-- The prices of a job in a book (document 02, request (xiv)), and the limits that a book leans on.
-- Assumes nothing.
use Rattle.std.specs.Prelude.{ℕ, ◌≤◌, List}
use Rattle.limits.specs.Limits.{value_limit, most_discounts, most_state_prices}
use Rattle.job_laws.specs.declared.JobPrices.{JobPrices}
use Rattle.job_laws.specs.JobPrices.{bytes_prices}

-- the prices of a job's bytes, in memories that hold every tree
unfoldable pub job_prices : List ℕ → JobPrices
job_prices job = bytes_prices job most_discounts most_state_prices

-- a number of a refusal that a job can have
abbrev pub most_number : ℕ
most_number = 13

-- no error bound of a bond is larger
abbrev pub most_error_bound : ℕ
most_error_bound = 1000000

pub record Bounded (prices : JobPrices) : Type 0 where
  pub number : prices.number ≤ most_number
  pub bond : prices.bond.value ≤ value_limit
  pub bound : prices.bond.bound ≤ most_error_bound
  pub option : prices.option.value ≤ value_limit
