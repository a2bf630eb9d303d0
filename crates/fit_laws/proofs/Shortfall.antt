-- Rounded state prices never exceed the exact ones node by node, and the sum of the shortfalls is at most the state-price allowance, for any tree and
-- any discounts.
-- Assumes nothing.
use Prim.Native.Nat.{ℕ, zero, suc, ◌+◌, ◌-◌, ◌*◌, ◌^◌, ◌≤◌, ◌<◌}
use native.Mathlib.Nat.{mul-le-mul_left, mul-le-mul_right, pow-succ', mul-div-le}
use native.Mathlib.Omega.{arith}
use Rattle.arithmetic.specs.Rounding.{one, round_up}
use Rattle.arithmetic.specs.Sum.{sum, greatest}
use Rattle.arithmetic.proofs.Numbers.{cross}
use Rattle.arithmetic.proofs.RoundingLaws.{up-ge}
use Rattle.arithmetic.proofs.SumLaws.{sum-le, sum-add, sum-scale, sum-sub, greatest-ge}
use Rattle.tree.specs.Tree.{Transition, Tree, Sound, Inside, Total, incoming, probability_total, unit}
use Rattle.tree.proofs.StepLaws.{incoming-le, incoming-scale, incoming-total}
use Rattle.fit_laws.specs.Step.{carried, next_state_price}
use Rattle.fit_laws.specs.StatePrices.{state_price, exact_state_price, state_price_error_bound}
use Rattle.fit_laws.proofs.StepLaws.{carried-node, carried-ge, next-ge}

-- one step down: the rounded step from below stays below
step-below :
    (t : Transition) (n w : ℕ) (q x v : ℕ → ℕ) → ((k : ℕ) → k < n → w * q k ≤ x k) → (j : ℕ) →
    unit * w * next_state_price t n q v j ≤ incoming t n (λ k. x k * v k) j
unfolding next_state_price
step-below t n w q x v h j =
    let scaled : incoming t n (λ k. (w * one) * carried q v k) j ≤ incoming t n (λ k. x k * v k) j
    = incoming-le t n _ _ (λ k l. carried-below k l) j in
    omega (
      arith,
      scaled,
      incoming-scale t n (w * one) (carried q v) j,
      mul-le-mul_left w (mul-div-le (incoming t n (carried q v) j) probability_total),
    )
  where
    carried-below : (k : ℕ) → k < n → (w * one) * carried q v k ≤ x k * v k
    carried-below k l =
        omega (arith, mul-le-mul_left w (carried-node q v k), mul-le-mul_right (v k) (h k l))

pub state-below :
    (t : Tree) (v : ℕ → ℕ → ℕ) (i k : ℕ) → unit ^ i * state_price t v i k ≤ exact_state_price t v i k
unfolding state_price exact_state_price
state-below t v zero k = omega arith
state-below t v (suc i) k =
    rw (pow-succ' unit i)
    (step-below (t.step i) (t.nodes i) (unit ^ i) (state_price t v i) (exact_state_price t v i) (v i)
    (λ l h. state-below t v i l) k)

-- How far the rounded state prices of a row fall short of the exact ones, in sum.
-- discounts of at most g stretch a shortfall by at most g
pub stretch :
    (n w g : ℕ) (q x v : ℕ → ℕ) → ((k : ℕ) → k < n → w * q k ≤ x k) → ((k : ℕ) → k < n → v k ≤ g) →
    sum n (λ k. x k * v k) + g * (w * sum n q) ≤ g * sum n x + w * sum n (λ k. q k * v k)
stretch n w g q x v hx hv =
    omega (
      arith,
      sum-le n (λ k. x k * v k + (g * w) * q k) (λ k. g * x k + w * (q k * v k))
          (λ k l. omega (arith, cross (x k) (w * q k) (v k) g (hx k l) (hv k l))),
      sum-add n (λ k. x k * v k) (λ k. (g * w) * q k),
      sum-scale n (g * w) q,
      sum-add n (λ k. g * x k) (λ k. w * (q k * v k)),
      sum-scale n g x,
      sum-scale n w (λ k. q k * v k),
    )

step-short :
    (t : Transition) (n m w e g : ℕ) (q x v : ℕ → ℕ) → Inside t n m → Total t n →
    ((k : ℕ) → k < n → w * q k ≤ x k) → ((k : ℕ) → k < n → v k ≤ g) →
    sum n x ≤ w * (sum n q + e) →
    sum m (incoming t n (λ k. x k * v k)) ≤ unit * w * (sum m (next_state_price t n q v) + (round_up (g * e) one + n + m))
step-short t n m w e g q x v inside total hx hv h =
    omega (
      arith,
      incoming-total t n m (λ k. x k * v k) inside total,
      stretch n w g q x v hx hv,
      mul-le-mul_left g h,
      mul-le-mul_left w (carried-ge n q v),
      mul-le-mul_left w (next-ge t n m q v inside total),
      mul-le-mul_left w (up-ge (g * e) one (omega arith)),
    )

pub state-short :
    (t : Tree) (s : Sound t) (v : ℕ → ℕ → ℕ) (i : ℕ) →
    sum (t.nodes i) (exact_state_price t v i) ≤ unit ^ i * (sum (t.nodes i) (state_price t v i) + state_price_error_bound t v i)
unfolding state_price exact_state_price state_price_error_bound
state-short t s v zero = omega arith
state-short t s v (suc i) =
    rw (pow-succ' unit i)
    (step-short (t.step i) (t.nodes i) (t.nodes (suc i)) (unit ^ i) (state_price_error_bound t v i) (greatest (t.nodes i) (v i))
    (state_price t v i) (exact_state_price t v i) (v i) (s.inside i) (s.total i)
    (λ k l. state-below t v i k) (greatest-ge (t.nodes i) (v i)) (state-short t s v i))

-- The meaning of the state-price allowance: the sum over the nodes of exact less rounded is at most the allowance.
pub state-price-shortfall :
    (t : Tree) (s : Sound t) (v : ℕ → ℕ → ℕ) (i : ℕ) →
    sum (t.nodes i) (λ k. exact_state_price t v i k - unit ^ i * state_price t v i k) ≤ unit ^ i * state_price_error_bound t v i
state-price-shortfall t s v i =
    omega (
      arith,
      sum-sub (t.nodes i) (exact_state_price t v i) (λ k. unit ^ i * state_price t v i k) (λ k l. state-below t v i k),
      sum-scale (t.nodes i) (unit ^ i) (state_price t v i),
      state-short t s v i,
    )
