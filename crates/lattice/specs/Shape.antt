-- Rows of the tree (document 01, Terms): b is the reversion per step in ten-thousandths, i a row, n the number of steps.
-- Assumes nothing.
use Rattle.std.specs.Prelude.{ℕ, suc, ◌+◌, ◌*◌, ◌/◌, min, cond, eqb}
use Rattle.arithmetic.specs.Sum.{sum}

-- J: 1,840 divided by b, down, plus 1. With b = 0 there is no J, and nothing reads this.
unfoldable pub highest_node : ℕ → ℕ
highest_node b = 1840 / b + 1

-- w: the lesser of i and J; i where b = 0
unfoldable pub half_width : ℕ → ℕ → ℕ
half_width b i = cond (eqb b 0) i (min i (highest_node b))

-- nodes −w to w
unfoldable pub node_count : ℕ → ℕ → ℕ
node_count b i = 2 * half_width b i + 1

-- stored row after row: where row i starts
unfoldable pub row_start : ℕ → ℕ → ℕ
row_start b i = sum i (node_count b)

-- discounts exist for rows 0 to n − 1, state prices for rows 0 to n
unfoldable pub discounts_needed : ℕ → ℕ → ℕ
discounts_needed n b = row_start b n

unfoldable pub state_prices_needed : ℕ → ℕ → ℕ
state_prices_needed n b = row_start b (suc n)
