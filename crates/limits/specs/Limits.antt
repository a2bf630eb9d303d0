-- The limits of document 01 (Terms, Spacing and fit, When the engine declines), each with one name.
-- Assumes nothing.
use Rattle.std.specs.Prelude.{ℕ, Bool, cond, ◌&&◌, List, leb, ltb}
use Rattle.arithmetic.specs.Row.{values, each}

-- n, steps: 1 to 60
abbrev pub most_steps : ℕ
most_steps = 60

-- b, pull per step in ten-thousandths: 0 to 6,000
abbrev pub most_reversion : ℕ
most_reversion = 6000

-- a node discount: 1 to 1,100,000,000
abbrev pub most_discount : ℕ
most_discount = 1100000000

-- P, a quoted discount: 0.1 to 2
abbrev pub least_quote : ℕ
least_quote = 100000000

abbrev pub most_quote : ℕ
most_quote = 2000000000

-- 8 × one: no value, payoff or price may be above it
abbrev pub value_limit : ℕ
value_limit = 8000000000

-- the nodes of the widest row, and the discounts and state prices of the widest tree
abbrev pub most_nodes : ℕ
most_nodes = 121

abbrev pub most_discounts : ℕ
most_discounts = 3600

abbrev pub most_state_prices : ℕ
most_state_prices = 3721

-- the most that state prices of a row may sum to where they are weighed: two, and what a fit may be above its quote
abbrev pub sum_limit : ℕ
sum_limit = 2000000100

-- whether a number is within its limits
abbrev pub is_steps : ℕ → Bool
is_steps n = leb 1 n && leb n most_steps

abbrev pub is_reversion : ℕ → Bool
is_reversion b = leb b most_reversion

abbrev pub is_discount : ℕ → Bool
is_discount v = leb 1 v && leb v most_discount

-- each of the first n discounts of a memory is within its limits
abbrev pub all_discounts : ℕ → List ℕ → Bool
all_discounts n discounts = each n (λ k. is_discount (values discounts k))

-- the cause about a tree's numbers: 3 for n, then 4 for b; 0 where there is none
unfoldable pub shape_cause : ℕ → ℕ → ℕ
shape_cause n b = cond (is_steps n) (cond (is_reversion b) 0 4) 3

-- the cause about a value: 12 above the limit; 0 where there is none
unfoldable pub limit_cause : ℕ → ℕ
limit_cause value = cond (ltb value_limit value) 12 0
