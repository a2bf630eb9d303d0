use Rattle.book_laws.proofs.OpenLaws.{dearer-first, dearer-later}
use Rattle.book_fields.proofs.books.is_dearer.Goals as goal

pub returns-then-book-eq0 : goal.returns-then-book-eq0
returns-then-book-eq0 c = dearer-first _ _ c.if-book-eq0.true

pub returns : goal.returns
returns c = dearer-later _ _ c.if-book-eq0.false
