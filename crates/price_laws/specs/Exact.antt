-- The exact pricer (document 01, Prices): fed n, b, the node discounts, and flows, kind, expiry and strike, or side, listed rows and strike
-- (document 02, request (iii)), or a row and its payoffs. It rounds nothing and refuses nothing. With m = 600,000,000 × one its price at row 0
-- is held times m^n, for payoffs on row t times m^t.
-- Assumes nothing.
use Rattle.std.specs.Prelude.{ℕ, List}
use Rattle.arithmetic.specs.Within.{Within}
use Rattle.arithmetic.specs.Row.{values}
use Rattle.lattice.specs.RateTree.{rate_tree}
use Rattle.pricing_laws.specs.Pricer.{bond, option, payoff_value}
use Rattle.pricing_laws.specs.Schedule.{side_of, schedule_of, numbered_side, dated_schedule}
use Rattle.pricing_laws.specs.TreePricer.{exact}
use Rattle.lent_tree.specs.LentTree.{stored}
use Rattle.price_laws.specs.declared.Price.{Price}
use Rattle.price_laws.specs.Prices.{flow_at}

unfoldable pub exact_bond : ℕ → ℕ → List ℕ → List ℕ → ℕ
exact_bond n b discounts flows = bond (exact (rate_tree b) (stored b discounts)) (flow_at flows) n 0 0

unfoldable pub exact_option : ℕ → ℕ → List ℕ → List ℕ → ℕ → ℕ → ℕ → ℕ
exact_option n b discounts flows kind expiry strike =
    option (exact (rate_tree b) (stored b discounts)) (flow_at flows) n (side_of kind) strike (schedule_of kind expiry) 0 0

unfoldable pub exact_dated : ℕ → ℕ → List ℕ → List ℕ → ℕ → List ℕ → ℕ → ℕ
exact_dated n b discounts flows side dates strike =
    option (exact (rate_tree b) (stored b discounts)) (flow_at flows) n (numbered_side side) strike (dated_schedule dates) 0 0

-- payoffs on row t, rolled to row 0 without flows
unfoldable pub exact_payoff : ℕ → List ℕ → ℕ → List ℕ → ℕ
exact_payoff b discounts t payoffs = payoff_value (exact (rate_tree b) (stored b discounts)) (values payoffs) t 0 0

-- a price is within its own error bound of the exact price, which is held times a scale
abbrev pub Accurate : ℕ → Price → ℕ → Type 0
Accurate scale price exact_price = Within price.bound scale price.value exact_price
