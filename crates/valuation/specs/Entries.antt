-- The answers of valuation by state prices (document 01, Prices: weighing; When the engine declines), lowest number first.
-- Assumes nothing.
use Rattle.std.specs.Prelude.{ℕ, ◌%◌, Bool, cond, not, ◌&&◌, List, eqb, leb, ltb, length}
use Rattle.arithmetic.specs.Row.{values, sum_of, greatest_of}
use Rattle.arithmetic.specs.declared.Answer.{Answer}
use Rattle.arithmetic.specs.Answers.{refused, answered, lowest_cause}
use Rattle.limits.specs.Limits.{most_nodes, value_limit, limit_cause, sum_limit}
use Rattle.lattice.specs.RateTree.{rate_tree}
use Rattle.lattice.specs.Entries.{node_count_answer}
use Rattle.lent_tree.specs.LentTree.{stored}
use Rattle.state_price_bound.specs.ErrorBound.{bound_cause}
use Rattle.valuation_laws.specs.Valuation.{value_by_state_prices, valuation_error_bound}

-- the value of payoffs by the state prices of their row
unfoldable pub value_of : List ℕ → List ℕ → ℕ
value_of prices payoffs = value_by_state_prices (length prices) (values prices) (values payoffs)

-- the two lengths are equal, odd and at most 121
unfoldable pub fit_aRow : List ℕ → List ℕ → Bool
fit_aRow prices payoffs = eqb (length prices) (length payoffs) && not (eqb (length prices % 2) 0) && leb (length prices) most_nodes

-- weighing
unfoldable pub value_by_state_prices_answer : List ℕ → List ℕ → Answer
value_by_state_prices_answer prices payoffs =
    cond (not (fit_aRow prices payoffs)) (refused 6)
    (cond (ltb value_limit (greatest_of payoffs)) (refused 12)
    (cond (ltb sum_limit (sum_of prices)) (refused 12)
    (cond (ltb value_limit (value_of prices payoffs)) (refused 12)
    (answered (value_of prices payoffs)))))

-- 6 where there are not as many payoffs as the row has nodes, 12 where the greatest payoff is above the limit
unfoldable pub payoffs_cause : ℕ → ℕ → ℕ → ℕ
payoffs_cause count nodes greatest = lowest_cause (cond (eqb count nodes) 0 6) (limit_cause greatest)

-- the number of the refusal of payoffs on row i of a tree whose discounts are lent; 0 where there is none
unfoldable pub valuation_cause : ℕ → ℕ → List ℕ → ℕ → List ℕ → ℕ
valuation_cause n b discounts i payoffs =
    lowest_cause (bound_cause n b discounts i) (payoffs_cause (length payoffs) (node_count_answer b i).value (greatest_of payoffs))

-- the weighing allowance of row i
unfoldable pub valuation_error_bound_answer : ℕ → ℕ → List ℕ → ℕ → List ℕ → Answer
valuation_error_bound_answer n b discounts i payoffs =
    cond (eqb (valuation_cause n b discounts i payoffs) 0)
    (answered (valuation_error_bound (rate_tree b) (stored b discounts) i (values payoffs)))
    (refused (valuation_cause n b discounts i payoffs))
