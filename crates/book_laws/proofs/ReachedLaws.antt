-- A book that calls reach either ended or is open, so that a call adds to it wherever the request has it added.
-- Assumes nothing.
use mathlib.Core.Path.{◌≡◌, refl, sym, ◌∙◌, subst}
use mathlib.Core.Bool.{true, false}
use mathlib.Core.List.{List, [], ◌∷◌, ◌++◌}
use mathlib.Core.Logic.{⊎_elim}
use Prim.Native.Nat.{ℕ, ◌≤◌, ◌<◌}
use native.Mathlib.Nat.{eq-or-lt_of_le}
use native.Mathlib.Omega.{arith}
use lib.ListN.{length, length-append}
use Rattle.book_laws.specs.Bounds.{job_prices}
use Rattle.book_laws.specs.declared.Book.{Book}
use Rattle.book_laws.specs.Books.{most_fields, empty_book, is_open, with_prices, with_field, ended_book, broken_book}
use Rattle.book_laws.specs.Reached.{Reached, start, field, broke}
use Rattle.book_laws.proofs.OpenLaws.{ended-shut, field-shut, field-full, field-added, broken-shut, broken-ends}
use Rattle.book_laws.proofs.TallyLaws.{Open, none_yet, tally-open, tally-more, field-ended}

data Kept (b : Book) : Type 0 where
  going : (jobs : List (List ℕ)) → Open jobs b → length jobs ≤ most_fields → Kept b
  over : b.ended ≡ true → Kept b

open-now : {b : Book} (jobs : List (List ℕ)) → Open jobs b → length jobs ≤ most_fields → is_open b ≡ true
open-now {b} jobs o h = tally-open jobs b o.tally o.ended h

kept : {b : Book} → Reached b → Kept b
unfolding empty_book ended_book
kept start = going [] (record { tally = none_yet; ended = refl }) (omega arith)
kept (field {b} job r) = go (kept r)
  where
    go : Kept b → Kept (with_field b job)
    go (over e) = subst Kept (field-shut b job (sym (ended-shut b e))) (over e)
    go (going jobs o h) =
        ⊎_elim (λ (q : length jobs ≡ most_fields). subst Kept (field-full b job (omega (arith, o.tally.fields))) (going jobs o h))
        (λ (l : length jobs < most_fields). going (jobs ++ (job ∷ []))
        (record { tally = tally-more jobs job b o.tally o.ended l; ended = field-ended b job ∙ o.ended }) (simp length-append (omega arith)))
        (eq-or-lt_of_le h)
kept (broke {b} r) = go (kept r)
  where
    ends : (ended_book b).ended ≡ true
    ends = refl

    go : Kept b → Kept (broken_book b)
    go (over e) = subst Kept (broken-shut b (sym (ended-shut b e))) (over e)
    go (going jobs o h) = subst Kept (broken-ends b (open-now jobs o h)) (over ends)

-- EACH CALL ADDS: a field to a reached book that has not ended and has fewer than 500, and one under 1 where it ends broken
pub reached-open : {b : Book} → Reached b → b.ended ≡ false → is_open b ≡ true
reached-open {b} r n = go (kept r)
  where
    go : Kept b → is_open b ≡ true
    go (over e) = let z : ◌≡◌ {A = ℕ} 0 1 = cc in let none : ⊥ = omega arith in absurd none
    go (going jobs o h) = open-now jobs o h

pub reached-field : {b : Book} (job : List ℕ) → Reached b → b.ended ≡ false → b.fields < most_fields → with_field b job ≡ with_prices b (job_prices job)
reached-field {b} job r n l = field-added b job (reached-open r n) l

pub reached-broken : {b : Book} → Reached b → b.ended ≡ false → broken_book b ≡ ended_book b
reached-broken {b} r n = sym (broken-ends b (reached-open r n))
