-- What a fit leaves of a part that is as long as the tree needs.
-- Assumes nothing.
use mathlib.Core.Path.{◌≡◌, sym, ap, ◌∙◌}
use Prim.Native.Nat.{ℕ, ◌+◌}
use mathlib.Core.List.{List, append-nil}
use native.Mathlib.Omega.{arith}
use borrow.Author.Tests.{eq-eqb, ne_eqb}
use lib.ListN.{length, drop_of_length-le}
use Rattle.arithmetic.specs.Row.{place}
use Rattle.arithmetic.proofs.Numbers.{by_equal}
use Rattle.arithmetic.proofs.RowLaws.{length-row}
use Rattle.fitted_laws.specs.Entry.{fit_memory}
use Rattle.shelf_laws.specs.Parts.{zeros}

place-whole : (memory row : List ℕ) → length row ≡ length memory → place memory 0 row ≡ row
unfolding place
place-whole memory row e =
    rw (drop_of_length-le memory {i = 0 + length row} (omega (arith, e))) (append-nil row)

module _ (number : ℕ) (rows memory : List ℕ) (same : length memory ≡ length rows) where
  pub part-fitted : number ≡ 0 → fit_memory number rows memory ≡ rows
  unfolding fit_memory
  part-fitted z = rw (eq-eqb number 0 z) (place-whole memory rows (sym same))

  pub part-zeroed : number ≡ 9 → fit_memory number rows memory ≡ zeros (length rows)
  unfolding fit_memory
  part-zeroed z = rw z (place-whole memory (zeros (length rows)) (length-row (length rows) _ ∙ sym same))

  pub part_left : (number ≡ 0 → ⊥) → (number ≡ 9 → ⊥) → fit_memory number rows memory ≡ memory
  unfolding fit_memory
  part_left z n = rw (ne_eqb number 0 z, ne_eqb number 9 n)

  pub part-size : length (fit_memory number rows memory) ≡ length rows
  part-size =
      by_equal number 0
      (λ (z : number ≡ 0). ap length (part-fitted z))
      (λ (z : number ≡ 0 → ⊥). by_equal number 9
      (λ (n : number ≡ 9). ap length (part-zeroed n) ∙ length-row (length rows) _)
      (λ (n : number ≡ 9 → ⊥). ap length (part_left z n) ∙ same))
