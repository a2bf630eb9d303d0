use native.Mathlib.Omega.{arith}
use Rattle.book_laws.proofs.OpenLaws.{open-within, counts-few}
use Rattle.book_laws.specs.Books.{with_refused}
use Rattle.book_fields.proofs.books.with_refused.Goals as goal

pub counted-counts-requires : goal.counted-counts-requires
counted-counts-requires c = (c.requires.1, c.requires.2, counts-few _ c.requires.0)

pub overflow_add-result : goal.overflow_add-result
overflow_add-result c = omega (arith, (open-within _ c.requires.0).fields)

pub returns : goal.returns
unfolding with_refused
returns c = rw c.counted-counts.ensures
