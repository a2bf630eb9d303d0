-- The prices of a job whose tree is fitted.
-- Assumes nothing.
use Rattle.std.specs.Prelude.{ℕ, List}
use Rattle.price_laws.specs.Prices.{bond_price}
use Rattle.job_record.specs.declared.OptionRecord.{OptionRecord}
use Rattle.job_laws.specs.declared.JobPrices.{JobPrices}
use Rattle.job_laws.specs.JobPrices.{has_option, tree_option, tree_number, prices_of}

unfoldable pub tree_prices : ℕ → ℕ → List ℕ → List ℕ → OptionRecord → JobPrices
tree_prices n b discounts flows option =
    prices_of (tree_number n b discounts flows option) (bond_price n b discounts flows) (has_option option) (tree_option n b discounts flows option)
