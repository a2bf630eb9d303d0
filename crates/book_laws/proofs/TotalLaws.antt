-- The figures of a book are the counts and sums over its jobs, and its bonds' exact total is within its error bounds.
-- Assumes nothing.
use mathlib.Core.Path.{◌≡◌, refl, sym, ap, ◌∙◌}
use mathlib.Core.Bool.{Bool, true, false, cond}
use mathlib.Core.List.{List, [], ◌∷◌, ◌++◌}
use Prim.Native.Nat.{ℕ, ◌+◌, ◌-◌, ◌*◌, ◌^◌, ◌≤◌}
use native.Mathlib.Nat.{mul-le-mul_right}
use native.Mathlib.Omega.{arith}
use borrow.Author.Tests.{eqb-true}
use lib.Dec.{eqb}
use lib.ListN.{length}
use lib.Pow.{pow-add}
use Rattle.arithmetic.specs.Within.{Within}
use Rattle.limits.specs.Limits.{most_steps}
use Rattle.book_laws.specs.Totals.{number_of, bond_of, bound_of, count_of, sum_of}

-- ---- counts and sums

module _ (f : List ℕ → ℕ) where
  pub sum-last : (jobs : List (List ℕ)) (job : List ℕ) → sum_of f (jobs ++ (job ∷ [])) ≡ sum_of f jobs + cond (eqb (number_of job) 0) (f job) 0
  unfolding sum_of
  sum-last [] job = omega arith
  sum-last (x ∷ jobs) job = omega (arith, sum-last jobs job)

  pub sum-most : (m : ℕ) → ((job : List ℕ) → f job ≤ m) → (jobs : List (List ℕ)) → sum_of f jobs ≤ length jobs * m
  unfolding sum_of
  sum-most m h [] = omega arith
  sum-most m h (job ∷ jobs) = omega (arith, one (eqb (number_of job) 0), sum-most m h jobs)
    where
      one : (t : Bool) → cond t (f job) 0 ≤ m
      one true = h job
      one false = omega arith

pub count-last : (k : ℕ) (jobs : List (List ℕ)) (job : List ℕ) → count_of k (jobs ++ (job ∷ [])) ≡ count_of k jobs + cond (eqb (number_of job) k) 1 0
unfolding count_of
count-last k [] job = omega arith
count-last k (x ∷ jobs) job = omega (arith, count-last k jobs job)

pub count_most : (k : ℕ) (jobs : List (List ℕ)) → count_of k jobs ≤ length jobs
unfolding count_of
count_most k [] = omega arith
count_most k (job ∷ jobs) = omega (arith, one (eqb (number_of job) k), count_most k jobs)
  where
    one : (t : Bool) → cond t 1 0 ≤ 1
    one true = omega arith
    one false = omega arith

-- ---- the exact total

sum-le : (f g : List ℕ → ℕ) → ((job : List ℕ) → number_of job ≡ 0 → f job ≤ g job) → (jobs : List (List ℕ)) → sum_of f jobs ≤ sum_of g jobs
unfolding sum_of
sum-le f g h [] = omega arith
sum-le f g h (job ∷ jobs) = omega (arith, one (eqb (number_of job) 0) refl, sum-le f g h jobs)
  where
    one : (t : Bool) → eqb (number_of job) 0 ≡ t → cond t (f job) 0 ≤ cond t (g job) 0
    one true e = h job (eqb-true (number_of job) 0 e)
    one false e = omega arith

sum-plus : (f g : List ℕ → ℕ) (jobs : List (List ℕ)) → sum_of (λ job. f job + g job) jobs ≡ sum_of f jobs + sum_of g jobs
unfolding sum_of
sum-plus f g [] = refl
sum-plus f g (job ∷ jobs) = omega (arith, one (eqb (number_of job) 0), sum-plus f g jobs)
  where
    one : (t : Bool) → cond t (f job + g job) 0 ≡ cond t (f job) 0 + cond t (g job) 0
    one true = refl
    one false = refl

sum-times : (f : List ℕ → ℕ) (c : ℕ) (jobs : List (List ℕ)) → sum_of (λ job. f job * c) jobs ≡ sum_of f jobs * c
unfolding sum_of
sum-times f c [] = omega arith
sum-times f c (job ∷ jobs) = omega (arith, one (eqb (number_of job) 0), sum-times f c jobs)
  where
    one : (t : Bool) → cond t (f job * c) 0 ≡ cond t (f job) 0 * c
    one true = refl
    one false = omega arith

-- exact values of the priced jobs' bonds, each held times m ^ n with n the job's steps, and their sum, held times m ^ 60
module _ (m : ℕ) (exact steps : List ℕ → ℕ) (few : (job : List ℕ) → number_of job ≡ 0 → steps job ≤ most_steps)
    (near : (job : List ℕ) → number_of job ≡ 0 → Within (bound_of job) (m ^ steps job) (bond_of job) (exact job)) where
  scaled : (job : List ℕ) → number_of job ≡ 0 → (x : ℕ) → x * m ^ steps job * m ^ (most_steps - steps job) ≡ x * m ^ most_steps
  scaled job h x =
      let n : steps job + (most_steps - steps job) ≡ most_steps = omega (arith, few job h) in
      let p : m ^ steps job * m ^ (most_steps - steps job) ≡ m ^ most_steps = sym (pow-add m (steps job) (most_steps - steps job)) ∙ ap (λ (k : ℕ). m ^ k) n in
      omega (arith, ap (λ (y : ℕ). x * y) p)

  low : (job : List ℕ) → number_of job ≡ 0 → bond_of job * m ^ most_steps ≤ exact job * m ^ (most_steps - steps job) + bound_of job * m ^ most_steps
  low job h =
      omega (arith, mul-le-mul_right (m ^ (most_steps - steps job)) (near job h).above, scaled job h (bond_of job), scaled job h (bound_of job))

  high : (job : List ℕ) → number_of job ≡ 0 → exact job * m ^ (most_steps - steps job) ≤ bond_of job * m ^ most_steps + bound_of job * m ^ most_steps
  high job h =
      omega (arith, mul-le-mul_right (m ^ (most_steps - steps job)) (near job h).below, scaled job h (bond_of job), scaled job h (bound_of job))

  -- THE EXACT TOTAL: it differs from the sum of the bonds by at most the sum of their error bounds
  pub total-near : (jobs : List (List ℕ)) →
      Within (sum_of bound_of jobs) (m ^ most_steps) (sum_of bond_of jobs) (sum_of (λ job. exact job * m ^ (most_steps - steps job)) jobs)
  total-near jobs =
      let M : ℕ = m ^ most_steps in
      let e : List ℕ → ℕ = λ job. exact job * m ^ (most_steps - steps job) in
      let a = sum-le (λ job. bond_of job * M) (λ job. e job + bound_of job * M) low jobs in
      let b = sum-le e (λ job. bond_of job * M + bound_of job * M) high jobs in
      let c = sum-plus e (λ job. bound_of job * M) jobs in
      let d = sum-plus (λ job. bond_of job * M) (λ job. bound_of job * M) jobs in
      let x = sum-times bond_of M jobs in
      let y = sum-times bound_of M jobs in
      record { above = omega arith; below = omega arith }
