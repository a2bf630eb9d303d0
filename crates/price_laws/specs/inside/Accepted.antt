-- The prices of an accepted tree, with an error bound that is known.
-- Assumes nothing.
use Rattle.std.specs.Prelude.{ℕ, List}
use Rattle.limits.specs.Limits.{limit_cause}
use Rattle.pricing_laws.specs.Pricer.{Side, Schedule}
use Rattle.price_laws.specs.declared.Price.{Price}
use Rattle.price_laws.specs.declared.BondAndOption.{BondAndOption}
use Rattle.price_laws.specs.declared.BondAndOptionValues.{BondAndOptionValues}
use Rattle.price_laws.specs.Prices.{priced, with_bound, bond_value, bond_peak, option_value, option_limit}

-- the bond; 12 for a value above 8 × one
abbrev pub accepted_bond : ℕ → ℕ → List ℕ → List ℕ → ℕ → Price
accepted_bond n b discounts flows bound = priced (limit_cause (bond_peak n b discounts flows)) (bond_value n b discounts flows 0 0) bound

-- an option
abbrev pub accepted_option : ℕ → ℕ → List ℕ → List ℕ → Side → ℕ → Schedule → ℕ → Price
accepted_option n b discounts flows side strike rows bound =
    priced (option_limit n b discounts flows side strike rows) (option_value n b discounts flows side strike rows 0 0) bound

-- both, from their values
abbrev pub both_with : BondAndOptionValues → ℕ → BondAndOption
both_with both bound = record { bond = with_bound both.bond bound; option = with_bound both.option bound }
