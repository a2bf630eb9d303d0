use Rattle.std.proofs.Common.{◌≡◌, ◌≤◌, ◌-◌, length, drop}
use Rattle.book_laws.specs.Books.{most_fields}
use Rattle.book_laws.specs.Files.{streamed, file_book}
use Rattle.book_report.proofs.file_book.Given as goal

abbrev pub invariant-loop : goal.invariant-loop
invariant-loop l = (l.at ≤ length l.file) × (streamed (most_fields - l.counter) l.book (drop l.at l.file) ≡ file_book l.file)
