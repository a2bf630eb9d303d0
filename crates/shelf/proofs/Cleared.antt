-- A part that is filled with zeros.
-- Assumes nothing.
use Rattle.std.proofs.Common.{◌≡◌, ◌∙◌, ℕ, List, ap, replicate}
use Rattle.std.proofs.lemmas.List.{length-replicate}
use Rattle.arithmetic.proofs.RowLaws as rows
use Rattle.shelf_laws.specs.Parts.{zeros}

-- what `fill(0)` leaves in a part of so many numbers
pub cleared : (l : List ℕ) (n count : ℕ) → l ≡ replicate n 0 → n ≡ count → l ≡ zeros count
cleared l n count e same =
    e ∙ ap (λ (k : ℕ). replicate k 0) same
    ∙ rows.row_of (replicate count 0) count (λ k. 0) (length-replicate count 0) (λ k h. rows.zeros count k)
