use mathlib.Core.Path.{◌≡◌, sym, ◌∙◌}
use native.Mathlib.Omega.{arith}
use borrow.Author.Rules.{rules}
use lib.ListN.{length}
use Rattle.book_laws.specs.Bounds.{most_number}
use Rattle.book_laws.proofs.OpenLaws.{shut, ended-shut, counts-tested, counts-last}
use Rattle.book_fields.proofs.books.is_open.Goals as goal
use Rattle.book_fields.proofs.books.is_open.Goals.{Start}

pub returns-then-book : goal.returns-then-book
returns-then-book c = ended-shut _ c.if-book.true

pub returns-then-book-gt-MOST_FIELDS : goal.returns-then-book-gt-MOST_FIELDS
returns-then-book-gt-MOST_FIELDS c = shut _ (λ w. omega (arith, w.fields, c.if-book-gt-MOST_FIELDS.true))

pub returns-then-book-2 : goal.returns-then-book-2
returns-then-book-2 c = shut _ (λ w. omega (arith, w.priced, c.if-book-2.true))

pub returns-then-book-3 : goal.returns-then-book-3
returns-then-book-3 c = shut _ (λ w. omega (arith, w.bonds, c.if-book-3.true))

pub returns-then-book-4 : goal.returns-then-book-4
returns-then-book-4 c = shut _ (λ w. omega (arith, w.options, c.if-book-4.true))

pub returns-then-book-5 : goal.returns-then-book-5
returns-then-book-5 c = shut _ (λ w. omega (arith, w.error-bounds, c.if-book-5.true))

pub returns-then-book-6 : goal.returns-then-book-6
returns-then-book-6 c = shut _ (λ w. omega (arith, w.place, c.if-book-6.true))

-- a book has thirteen counts
sized : (s : Start) → length s.args.book.refused ≡ most_number
sized s = search rules

pub slice_bounds-all_between-end : goal.slice_bounds-all_between-end
slice_bounds-all_between-end c =
    sym (sized (goal.at.slice_bounds-all_between-end c).Start)

pub returns : goal.returns
returns c =
    c.all_between.ensures
    ∙ counts-tested _ _ (sized (goal.at.returns c).Start)
    ∙ counts-last _ c.if-book.false c.if-book-gt-MOST_FIELDS.false c.if-book-2.false c.if-book-3.false c.if-book-4.false c.if-book-5.false
    c.if-book-6.false
