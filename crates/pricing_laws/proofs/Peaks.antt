-- Laws of the greatest value of a family of rows.
-- Assumes nothing.
use mathlib.Core.Path.{◌≡◌, sym, subst}
use mathlib.Core.Logic.{⊎_elim}
use Prim.Native.Nat.{ℕ, zero, suc, ◌+◌, ◌-◌, ◌≤◌, ◌<◌, max}
use native.Mathlib.Nat.{sub_self, le_refl, eq-or-lt_of_le, add-zero, add-suc}
use native.Mathlib.Omega.{arith}
use Rattle.pricing_laws.specs.Peak.{peak_from, peak}

module _ (top : ℕ → ℕ) (n : ℕ) where
  pub peak-last : peak top n n ≡ top n
  unfolding peak peak_from
  peak-last = rw sub_self

  pub peak-before : (i : ℕ) → i < n → peak top n i ≡ max (top i) (peak top n (suc i))
  unfolding peak peak_from
  peak-before i h = let e : n - i ≡ suc (n - suc i) = omega arith in rw e

  -- more rows have no smaller peak
  pub peak-grows : (i d : ℕ) → i + d ≤ n → peak top n (i + d) ≤ peak top n i
  peak-grows i zero h = rw add-zero (le_refl (peak top n i))
  peak-grows i (suc d) h = omega (arith, peak-grows i d (omega arith), rw (← add-suc i d) at (peak-before (i + d) (rw add-suc at h)))

  -- each row is in it
  pub row-in-peak : (i : ℕ) → i ≤ n → top i ≤ peak top n i
  row-in-peak i h =
      ⊎_elim
      (λ e. subst (λ (x : ℕ). top x ≤ peak top n x) (sym e) (omega (arith, peak-last)))
      (λ l. omega (arith, peak-before i l)) (eq-or-lt_of_le h)
