use native.Mathlib.Omega.{arith}
use Rattle.book_laws.proofs.OpenLaws.{counts-few}
use Rattle.book_laws.specs.Books.{ended_book}
use Rattle.book_fields.proofs.books.ended.Goals as goal

pub counted-counts-requires : goal.counted-counts-requires
counted-counts-requires c = (omega arith, omega arith, counts-few _ c.requires)

pub returns : goal.returns
unfolding ended_book
returns c = rw c.counted-counts.ensures
