-- The loop of the series: two terms a turn, the even and the odd ones summed apart.
-- Assumes nothing.
use mathlib.Core.Path.{◌≡◌, refl, sym, ◌∙◌, ap}
use Prim.Native.Nat.{ℕ, ◌+◌, ◌*◌, ◌≤◌}
use native.Mathlib.Numerals.{add-one}
use native.Mathlib.Omega.{arith}
use Rattle.arithmetic.specs.Rounding.{one, round_down}
use Rattle.arithmetic.specs.Sum.{sum}
use Rattle.arithmetic.proofs.SumLaws.{sum-next, sum-most}
use Rattle.factor.specs.Series.{term, even, odd}
use Rattle.factor.proofs.SeriesLaws.{term-zero, term-next, term-most}

-- a term divided by k + 1 times one gives the next one
pub next-is :
    (y k : ℕ) {last next divisor : ℕ} → last ≡ term y k → divisor ≡ (k + 1) * one → next ≡ round_down (last * y) divisor → next ≡ term y (k + 1)
next-is y k p e q = q ∙ rw (p, e, add-one k) (sym (term-next y k))

-- What the loop holds after some pairs of terms.
pub record Summed (y last evens odds pairs : ℕ) : Type 0 where
  pub latest : last ≡ term y (2 * pairs)
  pub even_sum : evens ≡ sum (pairs + 1) (even (term y))
  pub odd-sum : odds ≡ sum pairs (odd (term y))

pub summed-start : (y : ℕ) → Summed y one one 0 0
unfolding sum
summed-start y = record { latest = sym (term-zero y); even_sum = omega (arith, term-zero y); odd-sum = refl }

pub summed-next :
    {y last evens odds pairs next last' : ℕ} → Summed y last evens odds pairs →
    next ≡ term y (2 * pairs + 1) → last' ≡ term y (2 * pairs + 1 + 1) →
    Summed y last' (evens + last') (odds + next) (pairs + 1)
summed-next {y} {pairs} {last'} s p q =
    let e : 2 * pairs + 1 + 1 ≡ 2 * (pairs + 1) = omega arith in
    let l : last' ≡ term y (2 * (pairs + 1)) = q ∙ ap (term y) e in
    record {
      latest = l;
      even_sum = omega (arith, s.even_sum, l, sum-next (pairs + 1) (even (term y)));
      odd-sum = omega (arith, s.odd-sum, sum-next pairs (odd (term y)));
    }

-- the sums fit
module _ {y last evens odds pairs : ℕ} (hy : y ≤ one) (s : Summed y last evens odds pairs) where
  pub latest-most : last ≤ one
  latest-most = omega (arith, s.latest, term-most y (2 * pairs) hy)

  pub even-most : evens ≤ (pairs + 1) * one
  even-most = omega (arith, s.even_sum, sum-most (pairs + 1) one (even (term y)) (λ i l. term-most y (2 * i) hy))

  pub odd-most : odds ≤ pairs * one
  odd-most = omega (arith, s.odd-sum, sum-most pairs one (odd (term y)) (λ i l. term-most y (2 * i + 1) hy))
