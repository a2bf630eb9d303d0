-- What the code holds of a fit from converted quotes and a table of factors, and what it leaves in both memories.
-- Assumes nothing.
use Rattle.std.specs.Prelude.{Bool, cond, List, ◌++◌, ◌≡◌, ℕ, suc, length, drop}
use Rattle.arithmetic.specs.Row.{row, each}
use Rattle.tree.specs.Layout.{laid}
use Rattle.lattice.specs.Shape.{row_start}
use Rattle.lattice.specs.RateTree.{rate_tree}
use Rattle.fit_laws.specs.StatePrices.{fitted_state_price, fitted_discount, accepted_row}
use Rattle.fitting.specs.inside.Rows.{table_factor}
use Rattle.fitted_laws.specs.Fit.{quoted}

-- discounts and state prices by row and node
abbrev pub table_discount : ℕ → List ℕ → List ℕ → ℕ → ℕ → ℕ
table_discount b quotes factors = fitted_discount (rate_tree b) (table_factor b (length quotes) factors) (quoted quotes)

abbrev pub table_state_price : ℕ → List ℕ → List ℕ → ℕ → ℕ → ℕ
table_state_price b quotes factors = fitted_state_price (rate_tree b) (table_factor b (length quotes) factors) (quoted quotes)

-- whether every discount of every row is accepted
unfoldable pub table_accepted : ℕ → List ℕ → List ℕ → Bool
table_accepted b quotes factors = each (length quotes) (accepted_row (rate_tree b) (table_discount b quotes factors))

-- a memory once a fit was tried: rows 0 to n − 1 at its start where every discount is accepted, zeros in their place where one is not
abbrev pub rows_or_zeros : ℕ → ℕ → Bool → (ℕ → ℕ → ℕ) → List ℕ → List ℕ
rows_or_zeros b n accepted value memory =
    cond accepted (laid (rate_tree b) value n) (row (row_start b n) (λ j. 0)) ++ drop (row_start b n) memory

-- both memories once a fit was tried
pub record TreeFitted (b n : ℕ) (accepted : Bool) (discount price : ℕ → ℕ → ℕ) (discounts state-prices discounts' state-prices' : List ℕ) : Type 0 where
  pub discounted : discounts' ≡ rows_or_zeros b n accepted discount discounts
  pub priced : state-prices' ≡ rows_or_zeros b (suc n) accepted price state-prices

-- the same, with the answer: whether every discount is accepted
pub record FitTried (b n : ℕ) (accepted : Bool) (discount price : ℕ → ℕ → ℕ)
    (discounts state-prices discounts' state-prices' : List ℕ) (answer : Bool) : Type 0 where
  pub tested : answer ≡ accepted
  pub memories : TreeFitted b n answer discount price discounts state-prices discounts' state-prices'

-- nothing changed past the tree in either memory
pub record PastKept (b n : ℕ) (discounts state-prices discounts' state-prices' : List ℕ) : Type 0 where
  pub discounted : drop (row_start b n) discounts' ≡ drop (row_start b n) discounts
  pub priced : drop (row_start b (suc n)) state-prices' ≡ drop (row_start b (suc n)) state-prices
