-- Reports of books: what one book gives, and the sum of two.
-- Assumes nothing.
use Rattle.std.specs.Prelude.{◌+◌, Bool, not, cond, ◌&&◌, ◌||◌, eqb, ltb, replicate}
use Rattle.arithmetic.specs.Row.{row, values}
use Rattle.book_laws.specs.declared.Book.{Book}
use Rattle.book_laws.specs.Bounds.{most_number}
use Rattle.report_laws.specs.declared.Report.{Report}

unfoldable pub empty_report : Report
empty_report =
    record {
      books = 0;
      fields = 0;
      priced = 0;
      refused = replicate most_number 0;
      bonds = 0;
      options = 0;
      error_bounds = 0;
      dearest = 0;
      book = 0;
      place = 0;
    }

-- the report of one book, which has the number 1
unfoldable pub book_report : Book → Report
book_report b =
    record {
      books = 1;
      fields = b.fields;
      priced = b.priced;
      refused = b.refused;
      bonds = b.bonds;
      options = b.options;
      error_bounds = b.error_bounds;
      dearest = b.dearest;
      book = cond (eqb b.place 0) 0 1;
      place = b.place;
    }

-- the dearest bond of two reports is the second's: it has one, and the first has none or a lower one
unfoldable pub is_later : Report → Report → Bool
is_later a b = not (eqb b.place 0) && (eqb a.place 0 || ltb a.dearest b.dearest)

-- the second's books are numbered after the first's
unfoldable pub sum_report : Report → Report → Report
sum_report a b =
    record {
      books = a.books + b.books;
      fields = a.fields + b.fields;
      priced = a.priced + b.priced;
      refused = row most_number (λ k. values a.refused k + values b.refused k);
      bonds = a.bonds + b.bonds;
      options = a.options + b.options;
      error_bounds = a.error_bounds + b.error_bounds;
      dearest = cond (is_later a b) b.dearest a.dearest;
      book = cond (is_later a b) (a.books + b.book) a.book;
      place = cond (is_later a b) b.place a.place;
    }
