-- The sum of a list, as its iterator has it and by the index.
-- Assumes nothing.
use Rattle.std.proofs.Common.{◌≡◌, refl, ◌∙◌, sym, ap, ℕ, ◌+◌, List, [], ◌∷◌, length, sum}
use Rattle.std.proofs.lemmas.List.Sums.{sum_by-cons}
use Rattle.arithmetic.specs.Row.{sum_of, values}
use Rattle.arithmetic.specs.Sum as sums
use Rattle.arithmetic.proofs.SumLaws.{sum-shift}

pub sum-listed : (l : List ℕ) → sum l ≡ sum_of l
unfolding sum_of sums.sum
sum-listed [] = refl
sum-listed (x ∷ l) =
    sum_by-cons (λ y. y) x l ∙ ap (λ (n : ℕ). x + n) (sum-listed l) ∙ sym (sum-shift (length l) (values (x ∷ l)))
