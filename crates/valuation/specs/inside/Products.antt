-- The sum that a value by state prices is the quotient of.
-- Assumes nothing.
use Rattle.std.specs.Prelude.{ℕ, ◌*◌, List, length}
use Rattle.arithmetic.specs.Sum.{sum}
use Rattle.arithmetic.specs.Row.{values}

-- the sum of state price × payoff
unfoldable pub sum_of_products : List ℕ → List ℕ → ℕ
sum_of_products prices payoffs = sum (length prices) (λ k. values prices k * values payoffs k)
