use native.Mathlib.Omega.{arith}
use Rattle.book_laws.proofs.OpenLaws.{Within, open-within, option-most}
use Rattle.book_laws.specs.Books.{with_priced}
use Rattle.book_fields.proofs.books.with_priced.Goals as goal
use Rattle.book_fields.proofs.books.with_priced.Goals.{Start}

-- what is known of the book and of the prices
known : (s : Start) → Within s.args.book
known s = open-within s.args.book s.requires.0

pub overflow_add-place : goal.overflow_add-place
overflow_add-place c = let w = known (goal.at.overflow_add-place c).Start in omega (arith, w.fields)

pub overflow_add-result : goal.overflow_add-result
overflow_add-result c = let w = known (goal.at.overflow_add-result c).Start in omega (arith, w.fields, w.priced)

pub overflow_add-result-2 : goal.overflow_add-result-2
overflow_add-result-2 c =
    let w = known (goal.at.overflow_add-result-2 c).Start in omega (arith, w.fields, w.bonds, c.requires.1.bond)

pub overflow_add-result-3 : goal.overflow_add-result-3
overflow_add-result-3 c =
    let w = known (goal.at.overflow_add-result-3 c).Start in
    omega (arith, w.fields, w.options, option-most c.args.prices c.requires.1, c.option_of.ensures)

pub overflow_add-result-4 : goal.overflow_add-result-4
overflow_add-result-4 c =
    let w = known (goal.at.overflow_add-result-4 c).Start in omega (arith, w.fields, w.error-bounds, c.requires.1.bound)

pub returns : goal.returns
unfolding with_priced
returns c =
    rw (c.chosen.ensures, c.chosen-2.ensures, c.option_of.ensures, c.is_dearer-dearer.ensures)
