-- Payoffs on a row, valued by its state prices (document 01, Prices: weighing) and by the exact pricer.
-- v: discounts by row and node.
-- Assumes nothing.
use Rattle.std.specs.Prelude.{ℕ, ◌+◌, ◌*◌, ◌/◌}
use Rattle.arithmetic.specs.Rounding.{one, round_up}
use Rattle.arithmetic.specs.Sum.{sum, greatest}
use Rattle.tree.specs.Tree.{Tree}
use Rattle.fit_laws.specs.StatePrices.{state_price_error_bound}
use Rattle.pricing_laws.specs.Pricer.{payoff_value}
use Rattle.pricing_laws.specs.TreePricer.{exact}

-- weighing, over a row of n nodes: the sum of state price × payoff, divided by one, down
unfoldable pub value_by_state_prices : ℕ → (ℕ → ℕ) → (ℕ → ℕ) → ℕ
value_by_state_prices n price payoff = sum n (λ k. price k * payoff k) / one

-- weighing allowance, from the greatest payoff and the state-price allowance: their product / one, up, plus 1
unfoldable pub valuation_bound : ℕ → ℕ → ℕ
valuation_bound payoff bound = round_up (payoff * bound) one + 1

-- the weighing allowance of row r
unfoldable pub valuation_error_bound : Tree → (ℕ → ℕ → ℕ) → ℕ → (ℕ → ℕ) → ℕ
valuation_error_bound t v r payoff = valuation_bound (greatest (t.nodes r) payoff) (state_price_error_bound t v r)

-- the exact pricer's price of payoffs on row r, times m^r: they are rolled to row 0 without flows
unfoldable pub exact_price : Tree → (ℕ → ℕ → ℕ) → ℕ → (ℕ → ℕ) → ℕ
exact_price t v r payoff = payoff_value (exact t v) payoff r 0 0
