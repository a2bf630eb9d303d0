use mathlib.Core.Path.{refl}
use Rattle.book_laws.specs.Books.{empty_book}
use Rattle.book_fields.proofs.empty.Goals as goal

pub returns : goal.returns
unfolding empty_book
returns c = refl
