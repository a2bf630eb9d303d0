-- The fit of a tree from its converted quotes.
-- Assumes nothing.
use Rattle.std.specs.Prelude.{Bool, List, ℕ, zero, suc, length}
use Rattle.arithmetic.specs.Row.{values, each}
use Rattle.lattice.specs.RateTree.{node, rate_tree}
use Rattle.factor.specs.Factor.{factor}
use Rattle.fit_laws.specs.StatePrices.{fitted_state_price, fitted_discount, accepted_row}

-- the quotes of rows 1 to n by row; row 0 has none
unfoldable pub quoted : List ℕ → ℕ → ℕ
quoted quotes zero = 0
quoted quotes (suc i) = values quotes i

-- the fit of converted quotes: U(j) of each node with spacing h
abbrev pub node_factor : ℕ → ℕ → ℕ → ℕ → ℕ
node_factor b h i k = factor (node b i k) h

abbrev pub curve_discount : ℕ → ℕ → List ℕ → ℕ → ℕ → ℕ
curve_discount b h quotes = fitted_discount (rate_tree b) (node_factor b h) (quoted quotes)

abbrev pub curve_state_price : ℕ → ℕ → List ℕ → ℕ → ℕ → ℕ
curve_state_price b h quotes = fitted_state_price (rate_tree b) (node_factor b h) (quoted quotes)

unfoldable pub curve_accepted : ℕ → ℕ → List ℕ → Bool
curve_accepted b h quotes = each (length quotes) (accepted_row (rate_tree b) (curve_discount b h quotes))
