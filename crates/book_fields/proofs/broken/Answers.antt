use mathlib.Core.Path.{sym, ◌∙◌}
use Rattle.book_laws.proofs.OpenLaws.{broken-shut, broken-ends}
use Rattle.book_fields.proofs.broken.Goals as goal

pub returns-then-not-is_open : goal.returns-then-not-is_open
returns-then-not-is_open c = broken-shut _ (sym c.is_open.ensures ∙ c.if-not-is_open.true)

pub ended-requires : goal.ended-requires
ended-requires c = sym c.is_open.ensures ∙ c.if-not-is_open.false

pub returns : goal.returns
returns c = c.ended.ensures ∙ broken-ends _ (sym c.is_open.ensures ∙ c.if-not-is_open.false)
