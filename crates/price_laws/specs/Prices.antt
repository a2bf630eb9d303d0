-- The answers of the pricing entries (document 01, Prices and When the engine declines). n steps, reversion b, discounts and flows as lent.
-- Assumes nothing.
use Rattle.std.specs.Prelude.{ℕ, zero, suc, max, cond, List, eqb}
use Rattle.arithmetic.specs.Row.{values}
use Rattle.arithmetic.specs.Answers.{lowest_cause, first_cause}
use Rattle.limits.specs.Limits.{limit_cause}
use Rattle.lattice.specs.RateTree.{rate_tree}
use Rattle.pricing_laws.specs.Pricer.{Side, Schedule, bond, option}
use Rattle.pricing_laws.specs.Schedule.{side_of, schedule_of, numbered_side, dated_schedule, dates_cause}
use Rattle.pricing_laws.specs.TreePricer.{engine}
use Rattle.pricing_laws.specs.Peak.{peak, greatest_value}
use Rattle.lent_tree.specs.LentTree.{stored, discounts_cause}
use Rattle.price_bound.specs.PriceBound.{tree_error_bound}
use Rattle.price_causes.specs.Causes.{flows_cause, option_cause, terms_cause}
use Rattle.price_laws.specs.declared.Price.{Price}
use Rattle.price_laws.specs.declared.BondAndOption.{BondAndOption}
use Rattle.price_laws.specs.declared.BondAndOptionValues.{BondAndOptionValues}
use Rattle.arithmetic.specs.declared.Answer.{Answer}

-- flows stand for rows 1 to n; row 0 has none
unfoldable pub flow_at : List ℕ → ℕ → ℕ
flow_at flows zero = 0
flow_at flows (suc t) = values flows t

-- 3, 4, 6, 9, 10 about a tree, its lent discounts and its flows, lowest number first; 0 where there is none
unfoldable pub tree_cause : ℕ → ℕ → List ℕ → List ℕ → ℕ
tree_cause n b discounts flows = lowest_cause (discounts_cause n b discounts) (flows_cause n flows)

-- a refusal's number with zeros
abbrev pub refused_price : ℕ → Price
refused_price number = record { number = number; value = 0; bound = 0 }

-- a price with its error bound, or a refusal
unfoldable pub priced : ℕ → ℕ → ℕ → Price
priced number price bound = cond (eqb number 0) (record { number = 0; value = price; bound = bound }) (refused_price number)

-- number and value of a price, without its error bound; and the price with a bound that is known
abbrev pub value_alone : Price → Answer
value_alone price = record { number = price.number; value = price.value }

abbrev pub with_bound : Answer → ℕ → Price
with_bound value bound = priced value.number value.value bound

-- ---- the bond

-- the engine's bond at node k of row i
unfoldable pub bond_value : ℕ → ℕ → List ℕ → List ℕ → ℕ → ℕ → ℕ
bond_value n b discounts flows = bond (engine (rate_tree b) (stored b discounts)) (flow_at flows) n

-- the greatest bond value of rows 0 to n
unfoldable pub bond_peak : ℕ → ℕ → List ℕ → List ℕ → ℕ
bond_peak n b discounts flows = peak (greatest_value (rate_tree b) (bond_value n b discounts flows)) n 0

unfoldable pub bond_price : ℕ → ℕ → List ℕ → List ℕ → Price
bond_price n b discounts flows =
    priced (first_cause (tree_cause n b discounts flows) (limit_cause (bond_peak n b discounts flows)))
    (bond_value n b discounts flows 0 0) (tree_error_bound n b discounts)

-- ---- an option, by its side, its strike and the rows on which it may be exercised

module _ (n b : ℕ) (discounts flows : List ℕ) (side : Side) (strike : ℕ) (rows : Schedule) where
  -- the engine's option at node k of row i
  unfoldable pub option_value : ℕ → ℕ → ℕ
  option_value = option (engine (rate_tree b) (stored b discounts)) (flow_at flows) n side strike rows

  -- the greatest option value of rows 0 to expiry
  unfoldable pub option_peak : ℕ
  option_peak = peak (greatest_value (rate_tree b) option_value) rows.last 0

  -- 12: a value of bond or option above 8 × one
  unfoldable pub option_limit : ℕ
  option_limit = limit_cause (max (bond_peak n b discounts flows) option_peak)

  -- the answer, where the option itself has a cause or none: a cause about the tree comes first, 12 last
  abbrev pub scheduled_price : ℕ → Price
  scheduled_price cause =
      priced (first_cause (tree_cause n b discounts flows) (first_cause cause option_limit)) (option_value 0 0) (tree_error_bound n b discounts)

-- the four kinds
unfoldable pub option_price : ℕ → ℕ → List ℕ → List ℕ → ℕ → ℕ → ℕ → Price
option_price n b discounts flows kind expiry strike =
    scheduled_price n b discounts flows (side_of kind) strike (schedule_of kind expiry) (option_cause n kind expiry strike)

-- both, each as its own entry answers
abbrev pub bond_and_option : ℕ → ℕ → List ℕ → List ℕ → ℕ → ℕ → ℕ → BondAndOption
bond_and_option n b discounts flows kind expiry strike =
    record { bond = bond_price n b discounts flows; option = option_price n b discounts flows kind expiry strike }

-- ---- an option on listed rows (document 02, request (iii))

-- 11 for its side and strike, then 13 for its list
unfoldable pub dated_cause : ℕ → ℕ → List ℕ → ℕ → ℕ
dated_cause n side dates strike = lowest_cause (terms_cause side strike) (dates_cause n dates)

unfoldable pub dated_price : ℕ → ℕ → List ℕ → List ℕ → ℕ → List ℕ → ℕ → Price
dated_price n b discounts flows side dates strike =
    scheduled_price n b discounts flows (numbered_side side) strike (dated_schedule dates) (dated_cause n side dates strike)

abbrev pub bond_and_dated_option : ℕ → ℕ → List ℕ → List ℕ → ℕ → List ℕ → ℕ → BondAndOption
bond_and_dated_option n b discounts flows side dates strike =
    record { bond = bond_price n b discounts flows; option = dated_price n b discounts flows side dates strike }

-- ---- values alone

abbrev pub both_values : BondAndOption → BondAndOptionValues
both_values both = record { bond = value_alone both.bond; option = value_alone both.option }
