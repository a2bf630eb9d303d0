-- From what `all` of an iterator says of its answer to a test of each number.
-- Assumes nothing.
use Rattle.std.proofs.Common.{◌≡◌, sym, ◌∙◌, ap, ℕ, ◌<◌, ◌≤◌, Bool, true, false, List, length, get_or, take, length-take-le, arith}
use Rattle.std.proofs.Math.Seq.{get_or-take}
use Rattle.std.specs.Bool.{MatchBool}
use Rattle.std.specs.List.{range_with_len, AllWithin, HoldsAt}
use Rattle.std.proofs.lemmas.List.FromFn.{length-range_with_len, get_or-range_with_len}
use Rattle.arithmetic.specs.Row.{each}
use Rattle.arithmetic.proofs.RowLaws.{each_all, each-fails, each-cong}

-- what `cases_from_all` gives, of a test that answers true or false
abbrev pub AllTested : List ℕ → (ℕ → Bool) → Bool → Type 0
AllTested xs p r =
    MatchBool r (AllWithin (λ x. p x ≡ true) xs 0 (length xs)) ((k : ℕ) × (k < length xs) × HoldsAt (λ x. p x ≡ false) xs k)

-- over the numbers of a list
pub each-by_list : (xs : List ℕ) (p : ℕ → Bool) (r : Bool) → AllTested xs p r → r ≡ each (length xs) (λ k. p (get_or xs k 0))
each-by_list xs p true h = sym (each_all (length xs) (λ k. p (get_or xs k 0)) (λ k l. h k 0 (omega arith) l))
each-by_list xs p false h = sym (each-fails (length xs) h.0 (λ k. p (get_or xs k 0)) h.1 (h.2 0))

-- over the numbers below n
pub each-by_range : (n : ℕ) (p : ℕ → Bool) (r : Bool) → AllTested (range_with_len 0 n) p r → r ≡ each n p
each-by_range n p r h =
    each-by_list (range_with_len 0 n) p r h
    ∙ ap (λ (m : ℕ). each m (λ k. p (get_or (range_with_len 0 n) k 0))) (length-range_with_len 0 n)
    ∙ each-cong n (λ k. p (get_or (range_with_len 0 n) k 0)) p (λ k l. ap p (omega (arith, get_or-range_with_len 0 n k 0 l)))

-- over the first n numbers of a list
pub each-by_front :
    (n : ℕ) (xs : List ℕ) (p : ℕ → Bool) (r : Bool) → n ≤ length xs → AllTested (take n xs) p r → r ≡ each n (λ k. p (get_or xs k 0))
each-by_front n xs p r few h =
    each-by_list (take n xs) p r h
    ∙ ap (λ (m : ℕ). each m (λ k. p (get_or (take n xs) k 0))) (length-take-le n xs few)
    ∙ each-cong n (λ k. p (get_or (take n xs) k 0)) (λ k. p (get_or xs k 0)) (λ k l. ap p (get_or-take n xs k 0 l))
