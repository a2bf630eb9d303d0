-- The fit reprices its quotes: the state prices of the next row add up to the quote within 300 billionths.
-- Error budget, lower side: at most one unit a node for carrying (n), one unit a node for branching (m), and the old sum over one for the
-- discounts' rounding, together at most 119 + 121 + 2 = 242. Upper side: quote over Z for the rounding of Z, at most 55.
-- Assumes nothing.
use Prim.Native.Nat.{ℕ, zero, ◌+◌, ◌*◌, ◌≤◌, ◌<◌}
use native.Mathlib.Nat.{mul-le-mul, mul-le-mul_left, le_of_mul-le-mul_left, lt_of_mul-lt-mul_left}
use native.Mathlib.Omega.{arith}
use Rattle.limits.specs.Limits.{most_quote, most_nodes}
use Rattle.arithmetic.specs.Sum.{sum}
use Rattle.arithmetic.specs.Rounding.{one}
use Rattle.tree.specs.Tree.{Transition, Inside, Total}
use Rattle.fit_laws.specs.inside.Bounds.{least_factor, most_factor, least_row_sum, most_row_sum}
use Rattle.fit_laws.specs.Step.{normaliser, discount, carried, next_state_price}
use Rattle.arithmetic.proofs.SumLaws.{sum-weigh-ge, sum-weigh-le, sum_grow}
use Rattle.fit_laws.proofs.StepLaws.{carried-le, carried-ge, next_le, next-ge, discount-le, discount-ge, normaliser-le, normaliser-ge}

-- the general law, for any quote and any factors
pub short-by :
    (t : Transition) (n m p : ℕ) (q u : ℕ → ℕ) → Inside t n m → Total t n → zero < normaliser n q u →
    one * p ≤ one * (sum m (next_state_price t n q (discount n q u p)) + n + m) + sum n q
short-by t n m p q u inside total positive =
    let v : ℕ → ℕ = discount n q u p in
    let z : ℕ = normaliser n q u in
    let scaled : z * (one * p) ≤ z * (sum n (λ k. q k * v k) + sum n q)
    = omega (arith, mul-le-mul_left p (normaliser-le n q u), discount-ge n p q u positive) in
    omega (
      arith,
      le_of_mul-le-mul_left {m = one * p} {n = sum n (λ k. q k * v k) + sum n q} {k = z} scaled positive,
      carried-ge n q v,
      next-ge t n m q v inside total,
    )

pub carried-over :
    (n p : ℕ) (q u : ℕ → ℕ) →
    normaliser n q u * sum n (carried q (discount n q u p)) ≤ p * normaliser n q u + p
carried-over n p q u =
    omega (
      arith,
      mul-le-mul_left (normaliser n q u) (carried-le n q (discount n q u p)),
      discount-le n p q u,
      mul-le-mul_left p (normaliser-ge n q u),
    )

-- What holds of a row that a fit step starts from, and of its factors and the next quote.
pub record Fittable (t : Transition) (n m p : ℕ) (q u : ℕ → ℕ) : Type 0 where
  pub inside : Inside t n m
  pub total : Total t n
  pub nodes : n ≤ 119
  pub next-nodes : m ≤ most_nodes
  pub sum_low : least_row_sum ≤ sum n q
  pub sum-high : sum n q ≤ most_row_sum
  pub factor-low : (k : ℕ) → k < n → least_factor ≤ u k
  pub factor-high : (k : ℕ) → k < n → u k ≤ most_factor
  pub quote-high : p ≤ most_quote

module _ (t : Transition) (n m p : ℕ) (q u : ℕ → ℕ) (f : Fittable t n m p q u) where
  pub normaliser-low : 35999891 ≤ normaliser n q u
  normaliser-low = omega (arith, f.sum_low, sum-weigh-ge n 360000000 q u f.factor-low, normaliser-ge n q u)

  pub carried-high : sum n (carried q (discount n q u p)) ≤ p + 55
  carried-high =
      let c : ℕ = sum n (carried q (discount n q u p)) in
      let below : c < p + 56
      = lt_of_mul-lt-mul_left (normaliser n q u)
      (omega (arith, carried-over n p q u, f.quote-high, normaliser-low)) in
      omega arith

  -- the repriced quote: short by at most 242, over by at most 55
  pub repriced :
      (p ≤ sum m (next_state_price t n q (discount n q u p)) + 242)
      × (sum m (next_state_price t n q (discount n q u p)) ≤ p + 55)
  repriced = (
    omega
        (arith, short-by t n m p q u f.inside f.total (omega (arith, normaliser-low)), f.nodes, f.next-nodes, f.sum-high),
    omega (arith, carried-high, next_le t n m q (discount n q u p) f.inside f.total),
  )

  -- no step overflows 64 bits
  pub weighed-fits : (k : ℕ) → k ≤ n → sum k (λ k. q k * u k) < 18446744073709551616
  weighed-fits k l =
      omega (arith, f.sum-high, sum_grow n k (λ k. q k * u k) l, sum-weigh-le n 2720000000 q u f.factor-high)

  pub quoted-fits : (k : ℕ) → k < n → p * u k < 18446744073709551616
  quoted-fits k l = omega (arith, mul-le-mul f.quote-high (f.factor-high k l))
