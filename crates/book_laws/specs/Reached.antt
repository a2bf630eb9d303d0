-- The books that calls reach from the empty one.
-- Assumes nothing.
use Rattle.std.specs.Prelude.{ℕ, List}
use Rattle.book_laws.specs.declared.Book.{Book}
use Rattle.book_laws.specs.Books.{empty_book, with_field, broken_book}

pub data Reached : Book → Type 0 where
  start : Reached empty_book
  field : {b : Book} (job : List ℕ) → Reached b → Reached (with_field b job)
  broke : {b : Book} → Reached b → Reached (broken_book b)
