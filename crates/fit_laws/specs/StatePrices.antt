-- State prices over a whole tree (document 01, Spacing and fit; Prices): fitted, rounded and exact, and the state-price allowance.
-- v: discounts by row and node; u: factors by row and node; p: quotes by row.
-- Assumes nothing.
use Rattle.std.specs.Prelude.{ℕ, zero, suc, ◌+◌, ◌*◌, Bool}
use Rattle.arithmetic.specs.Rounding.{one, round_up}
use Rattle.arithmetic.specs.Sum.{greatest}
use Rattle.arithmetic.specs.Row.{each}
use Rattle.limits.specs.Limits.{is_discount}
use Rattle.tree.specs.Tree.{Tree, incoming}
use Rattle.fit_laws.specs.Step.{discount, next_state_price}

-- the state prices that the fit gives: row 0 has one
unfoldable pub fitted_state_price : Tree → (ℕ → ℕ → ℕ) → (ℕ → ℕ) → ℕ → ℕ → ℕ
fitted_state_price t u p zero = λ k. one
fitted_state_price t u p (suc i) =
    next_state_price (t.step i) (t.nodes i) (fitted_state_price t u p i)
    (discount (t.nodes i) (fitted_state_price t u p i) (u i) (p (suc i)))

-- the node discounts that the fit gives
unfoldable pub fitted_discount : Tree → (ℕ → ℕ → ℕ) → (ℕ → ℕ) → ℕ → ℕ → ℕ
fitted_discount t u p i = discount (t.nodes i) (fitted_state_price t u p i) (u i) (p (suc i))

-- whether every node discount of row i is accepted
unfoldable pub accepted_row : Tree → (ℕ → ℕ → ℕ) → ℕ → Bool
accepted_row t v i = each (t.nodes i) (λ k. is_discount (v i k))

-- the state prices that follow from node discounts, whoever stored them
unfoldable pub state_price : Tree → (ℕ → ℕ → ℕ) → ℕ → ℕ → ℕ
state_price t v zero = λ k. one
state_price t v (suc i) = next_state_price (t.step i) (t.nodes i) (state_price t v i) (v i)

-- the exact state prices of row i, times m^i
unfoldable pub exact_state_price : Tree → (ℕ → ℕ → ℕ) → ℕ → ℕ → ℕ
exact_state_price t v zero = λ k. one
exact_state_price t v (suc i) = incoming (t.step i) (t.nodes i) (λ k. exact_state_price t v i k * v i k)

-- state-price allowance: 0 at row 0, then, with the greatest discount of the row before, times the former / one, up, plus both node counts
unfoldable pub state_price_error_bound : Tree → (ℕ → ℕ → ℕ) → ℕ → ℕ
state_price_error_bound t v zero = 0
state_price_error_bound t v (suc i) = round_up (greatest (t.nodes i) (v i) * state_price_error_bound t v i) one + t.nodes i + t.nodes (suc i)
