use mathlib.Core.Path.{◌∙◌}
use Rattle.book_laws.proofs.OpenLaws.{closed-whole, closed-broken}
use Rattle.book_fields.proofs.closed.Goals as goal

pub returns-then-left-eq0 : goal.returns-then-left-eq0
returns-then-left-eq0 c = closed-whole _ _ c.if-left-eq0.true

pub returns : goal.returns
returns c = c.broken.ensures ∙ closed-broken _ _ c.if-left-eq0.false
