-- Laws of one step of the fit, for any width and any transition.
-- Assumes nothing.
use mathlib.Core.Path.{◌≡◌, ◌∙◌, ap}
use Prim.Native.Nat.{ℕ, zero, ◌+◌, ◌*◌, ◌/◌, ◌≤◌, ◌<◌}
use native.Mathlib.Nat.{mul-le-mul_left, mul-div-le, lt-div-mul-add}
use native.Mathlib.Omega.{arith}
use Rattle.arithmetic.specs.Sum.{sum}
use Rattle.arithmetic.specs.Rounding.{one}
use Rattle.tree.specs.Tree.{Transition, incoming, probability_total, Inside, Total}
use Rattle.fit_laws.specs.Step.{normaliser, discount, carried, next_state_price}
use Rattle.arithmetic.proofs.SumLaws.{sum-cong, sum-le, sum-add, sum-scale, sum-floor-le, sum-floor-ge}
use Rattle.tree.proofs.StepLaws.{incoming-total, incoming-cong}

pub carried-node : (q v : ℕ → ℕ) (k : ℕ) → one * carried q v k ≤ q k * v k
unfolding carried
carried-node q v k = omega arith

-- carrying: rounding down loses at most one unit a node
pub carried-le : (n : ℕ) (q v : ℕ → ℕ) → one * sum n (carried q v) ≤ sum n (λ k. q k * v k)
unfolding carried
carried-le n q v = sum-floor-le n one (λ k. q k * v k)

pub carried-ge : (n : ℕ) (q v : ℕ → ℕ) → sum n (λ k. q k * v k) ≤ one * sum n (carried q v) + n * one
unfolding carried
carried-ge n q v = sum-floor-ge n one (λ k. q k * v k) (omega arith)

-- branching: the next row's sum is the carried sum, less at most one unit a node
pub next_le :
    (t : Transition) (n m : ℕ) (q v : ℕ → ℕ) → Inside t n m → Total t n →
    sum m (next_state_price t n q v) ≤ sum n (carried q v)
unfolding next_state_price
next_le t n m q v h p =
    omega (arith, sum-floor-le m probability_total (λ j. incoming t n (carried q v) j), incoming-total t n m (carried q v) h p)

pub next-ge :
    (t : Transition) (n m : ℕ) (q v : ℕ → ℕ) → Inside t n m → Total t n →
    sum n (carried q v) ≤ sum m (next_state_price t n q v) + m
unfolding next_state_price
next-ge t n m q v h p =
    omega (arith, sum-floor-ge m probability_total (λ j. incoming t n (carried q v) j) (omega arith), incoming-total t n m (carried q v) h p)

-- the discounts' rounding, summed over the row
pub discount-le :
    (n p : ℕ) (q u : ℕ → ℕ) →
    normaliser n q u * sum n (λ k. q k * discount n q u p k) ≤ p * sum n (λ k. q k * u k)
unfolding discount
discount-le n p q u =
    omega (
      arith,
      sum-scale n (normaliser n q u) (λ k. q k * (p * u k / normaliser n q u)),
      sum-scale n p (λ k. q k * u k),
      sum-le n (λ k. normaliser n q u * (q k * (p * u k / normaliser n q u))) (λ k. p * (q k * u k))
          (λ k l. omega (arith, mul-le-mul_left (q k) (mul-div-le (p * u k) (normaliser n q u)))),
    )

pub discount-ge :
    (n p : ℕ) (q u : ℕ → ℕ) → zero < normaliser n q u →
    p * sum n (λ k. q k * u k) ≤ normaliser n q u * sum n (λ k. q k * discount n q u p k) + normaliser n q u * sum n q
unfolding discount
discount-ge n p q u h =
    omega (
      arith,
      sum-scale n (normaliser n q u) (λ k. q k * (p * u k / normaliser n q u)),
      sum-scale n (normaliser n q u) q,
      sum-scale n p (λ k. q k * u k),
      sum-add n (λ k. normaliser n q u * (q k * (p * u k / normaliser n q u))) (λ k. normaliser n q u * q k),
      sum-le n (λ k. p * (q k * u k)) (λ k. normaliser n q u * (q k * (p * u k / normaliser n q u)) + normaliser n q u * q k)
          (λ k l. omega (arith, mul-le-mul_left (q k) (lt-div-mul-add {a = p * u k} h))),
    )

-- Z lies within one unit of the sum over one
pub normaliser-le : (n : ℕ) (q u : ℕ → ℕ) → one * normaliser n q u ≤ sum n (λ k. q k * u k)
unfolding normaliser
normaliser-le n q u = omega arith

pub normaliser-ge : (n : ℕ) (q u : ℕ → ℕ) → sum n (λ k. q k * u k) ≤ one * normaliser n q u + one
unfolding normaliser
normaliser-ge n q u = omega arith

-- the step depends on the state prices of the row's own nodes only
pub discount-cong :
    (n p : ℕ) (q r u : ℕ → ℕ) → ((k : ℕ) → k < n → q k ≡ r k) → (k : ℕ) → discount n q u p k ≡ discount n r u p k
unfolding discount normaliser
discount-cong n p q r u h k =
    ap (λ (a : ℕ). p * u k / (a / one)) (sum-cong n _ _ (λ i l. ap (λ (x : ℕ). x * u i) (h i l)))

pub next-cong :
    (t : Transition) (n : ℕ) (q r v w : ℕ → ℕ) → ((k : ℕ) → k < n → q k ≡ r k) → ((k : ℕ) → k < n → v k ≡ w k) → (j : ℕ) →
    next_state_price t n q v j ≡ next_state_price t n r w j
unfolding next_state_price carried
next-cong t n q r v w hq hv j =
    ap (λ (a : ℕ). a / probability_total)
    (incoming-cong t n _ _ (λ k l. ap (λ (x : ℕ). x * v k / one) (hq k l) ∙ ap (λ (x : ℕ). r k * x / one) (hv k l)) j)
