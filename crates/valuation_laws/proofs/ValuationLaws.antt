-- Valuation by state prices against the exact price of the same payoffs, for any tree, any discounts and any payoffs.
-- Assumes nothing.
use mathlib.Core.Path.{◌≡◌, refl, ◌∙◌, sym}
use Prim.Native.Nat.{ℕ, zero, suc, ◌+◌, ◌*◌, ◌/◌, ◌^◌, ◌≤◌}
use native.Mathlib.Nat.{mul-le-mul_left, mul-le-mul_right, add-suc, suc-add, add-zero, zero-add, mul-div-le}
use native.Mathlib.Omega.{arith}
use Rattle.arithmetic.specs.Rounding.{one}
use Rattle.arithmetic.specs.Sum.{sum, greatest}
use Rattle.arithmetic.proofs.RoundingLaws.{up-ge}
use Rattle.arithmetic.proofs.SumLaws.{sum-cong, sum-le, sum-scale, sum-single, greatest-ge}
use Rattle.tree.specs.Tree.{Tree, Sound, unit}
use Rattle.tree.proofs.StepLaws.{duality}
use Rattle.fit_laws.specs.StatePrices.{state_price, exact_state_price, state_price_error_bound, fitted_state_price, fitted_discount}
use Rattle.fit_laws.proofs.Shortfall.{stretch, state-below, state-short}
use Rattle.fit_laws.proofs.WholeFit.{fitted-is-state}
use Rattle.pricing_laws.specs.Pricer.{payoff_value}
use Rattle.pricing_laws.specs.TreePricer.{exact, exact_roll}
use Rattle.valuation_laws.specs.Valuation.{value_by_state_prices, valuation_bound, valuation_error_bound, exact_price}

-- Duality over any number of rows: the sum of exact state price × exact value is the same on every row.
rows_agree :
    (t : Tree) (s : Sound t) (v : ℕ → ℕ → ℕ) (payoff : ℕ → ℕ) (d i : ℕ) →
    sum (t.nodes i) (λ k. exact_state_price t v i k * payoff_value (exact t v) payoff d i k)
    ≡ sum (t.nodes (i + d)) (λ k. exact_state_price t v (i + d) k * payoff k)
unfolding payoff_value exact_roll exact_state_price
rows_agree t s v payoff zero i = rw (add-zero i) (sum-cong (t.nodes i) _ _ (λ k l. omega arith))
rows_agree t s v payoff (suc d) i =
    sum-cong (t.nodes i) _ _ (λ k l. omega arith)
    ∙ (sym
    (duality (t.step i) (t.nodes i) (t.nodes (suc i)) (λ k. exact_state_price t v i k * v i k)
    (payoff_value (exact t v) payoff d (suc i)) (s.inside i))
    ∙ (rows_agree t s v payoff d (suc i) ∙ rw (suc-add i d, add-suc i d) refl))

root-row :
    (t : Tree) (s : Sound t) (v : ℕ → ℕ → ℕ) (f : ℕ → ℕ) →
    sum (t.nodes 0) (λ k. exact_state_price t v 0 k * f k) ≡ one * f 0
unfolding exact_state_price
root-row t s v f = rw s.root (sum-single (λ k. one * f k))

-- the exact price, by exact state prices
pub exact-price-dual :
    (t : Tree) (s : Sound t) (v : ℕ → ℕ → ℕ) (r : ℕ) (payoff : ℕ → ℕ) →
    one * exact_price t v r payoff ≡ sum (t.nodes r) (λ k. exact_state_price t v r k * payoff k)
unfolding exact_price
exact-price-dual t s v r payoff =
    sym (root-row t s v (payoff_value (exact t v) payoff r 0)) ∙ (rows_agree t s v payoff r 0 ∙ rw (zero-add r) refl)

-- rounding down: less than one unit is lost
floor-ge : (a : ℕ) → a ≤ one * (a / one) + one
floor-ge a = omega arith

-- The value by state prices never exceeds the exact price of the payoffs,
pub value-below :
    (t : Tree) (s : Sound t) (v : ℕ → ℕ → ℕ) (r : ℕ) (payoff : ℕ → ℕ) →
    unit ^ r * value_by_state_prices (t.nodes r) (state_price t v r) payoff ≤ exact_price t v r payoff
unfolding value_by_state_prices
value-below t s v r payoff =
    let n : ℕ = t.nodes r in
    let q : ℕ → ℕ = state_price t v r in
    let x : ℕ → ℕ = exact_state_price t v r in
    omega (
      arith,
      exact-price-dual t s v r payoff,
      sum-le n (λ k. unit ^ r * (q k * payoff k)) (λ k. x k * payoff k)
          (λ k l. omega (arith, mul-le-mul_right (payoff k) (state-below t v r k))),
      sum-scale n (unit ^ r) (λ k. q k * payoff k),
      mul-le-mul_left (unit ^ r) (mul-div-le (sum n (λ k. q k * payoff k)) one),
    )

-- and falls short of it by at most the error bound of its row.
pub value-short :
    (t : Tree) (s : Sound t) (v : ℕ → ℕ → ℕ) (r : ℕ) (payoff : ℕ → ℕ) →
    exact_price t v r payoff
    ≤ unit ^ r * (value_by_state_prices (t.nodes r) (state_price t v r) payoff + valuation_error_bound t v r payoff)
unfolding value_by_state_prices valuation_error_bound valuation_bound
value-short t s v r payoff =
    let n : ℕ = t.nodes r in
    let q : ℕ → ℕ = state_price t v r in
    let x : ℕ → ℕ = exact_state_price t v r in
    let g : ℕ = greatest n payoff in
    let e : ℕ = state_price_error_bound t v r in
    let w : ℕ = unit ^ r in
    omega (
      arith,
      exact-price-dual t s v r payoff,
      stretch n w g q x payoff (λ k l. state-below t v r k) (greatest-ge n payoff),
      mul-le-mul_left g (state-short t s v r),
      mul-le-mul_left w (up-ge (g * e) one (omega arith)),
      mul-le-mul_left w (floor-ge (sum n (λ k. q k * payoff k))),
    )

-- Both for fitted state prices: whatever was fitted, every row and all payoffs.
-- u: factors by row and node; p: quotes by row.
pub fitted-value :
    (t : Tree) (s : Sound t) (u : ℕ → ℕ → ℕ) (p : ℕ → ℕ) (r : ℕ) (payoff : ℕ → ℕ) →
    (unit ^ r * value_by_state_prices (t.nodes r) (fitted_state_price t u p r) payoff ≤ exact_price t (fitted_discount t u p) r payoff)
    × (exact_price t (fitted_discount t u p) r payoff
    ≤ unit ^ r
    * (value_by_state_prices (t.nodes r) (fitted_state_price t u p r) payoff + valuation_error_bound t (fitted_discount t u p) r payoff))
fitted-value t s u p r payoff =
    rw (fitted-is-state t u p r)
    (value-below t s (fitted_discount t u p) r payoff, value-short t s (fitted_discount t u p) r payoff)
