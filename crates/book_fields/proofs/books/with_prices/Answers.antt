use mathlib.Core.Path.{◌∙◌}
use native.Mathlib.Omega.{arith}
use Rattle.book_laws.proofs.OpenLaws.{prices-refused, prices-priced}
use Rattle.book_fields.proofs.books.with_prices.Goals as goal

pub returns-then-prices-ne0 : goal.returns-then-prices-ne0
returns-then-prices-ne0 c = c.with_refused.ensures ∙ prices-refused _ _ (λ e. omega (arith, c.if-prices-ne0.true))

pub returns : goal.returns
returns c = c.with_priced.ensures ∙ prices-priced _ _ (omega (arith, c.if-prices-ne0.false))
