-- The fit and the state prices row by row, in document 01's words.
-- Assumes nothing.
use mathlib.Core.Path.{◌≡◌, refl}
use Prim.Native.Nat.{ℕ, suc, ◌+◌, ◌*◌, ◌/◌}
use Rattle.arithmetic.specs.Rounding.{one, round_up}
use Rattle.arithmetic.specs.Sum.{sum, greatest}
use Rattle.tree.specs.Tree.{Tree, incoming}
use Rattle.fit_laws.specs.Step.{normaliser, discount, carried, next_state_price}
use Rattle.fit_laws.specs.StatePrices.{fitted_state_price, fitted_discount, state_price, exact_state_price, state_price_error_bound}

-- u: factors by row and node; p: quotes by row
module _ (t : Tree) (u : ℕ → ℕ → ℕ) (p : ℕ → ℕ) where
  pub fitted-first : (k : ℕ) → fitted_state_price t u p 0 k ≡ one
  unfolding fitted_state_price
  fitted-first k = refl

  pub fitted-discount : (i k : ℕ) →
      fitted_discount t u p i k ≡ p (suc i) * u i k / (sum (t.nodes i) (λ k. fitted_state_price t u p i k * u i k) / one)
  unfolding fitted_discount discount normaliser
  fitted-discount i k = refl

  pub fitted-next : (i j : ℕ) →
      fitted_state_price t u p (suc i) j
      ≡ incoming (t.step i) (t.nodes i) (λ k. fitted_state_price t u p i k * fitted_discount t u p i k / one) j / 600000000
  unfolding fitted_state_price fitted_discount next_state_price carried
  fitted-next i j = refl

-- v: node discounts by row and node, whoever stored them
module _ (t : Tree) (v : ℕ → ℕ → ℕ) where
  pub state-first : (k : ℕ) → state_price t v 0 k ≡ one
  unfolding state_price
  state-first k = refl

  pub state-next : (i j : ℕ) → state_price t v (suc i) j ≡ incoming (t.step i) (t.nodes i) (λ k. state_price t v i k * v i k / one) j / 600000000
  unfolding state_price next_state_price carried
  state-next i j = refl

  pub exact-first : (k : ℕ) → exact_state_price t v 0 k ≡ one
  unfolding exact_state_price
  exact-first k = refl

  pub exact-next : (i j : ℕ) → exact_state_price t v (suc i) j ≡ incoming (t.step i) (t.nodes i) (λ k. exact_state_price t v i k * v i k) j
  unfolding exact_state_price
  exact-next i j = refl

  pub bound-first : state_price_error_bound t v 0 ≡ 0
  unfolding state_price_error_bound
  bound-first = refl

  pub bound-next : (i : ℕ) →
      state_price_error_bound t v (suc i) ≡ round_up (greatest (t.nodes i) (v i) * state_price_error_bound t v i) one + t.nodes i + t.nodes (suc i)
  unfolding state_price_error_bound
  bound-next i = refl
