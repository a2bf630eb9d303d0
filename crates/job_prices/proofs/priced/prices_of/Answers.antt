use mathlib.Core.Path.{◌∙◌}
use Rattle.job_laws.proofs.PriceLaws as laws
use Rattle.job_prices.proofs.priced.prices_of.Goals as goal

pub returns-then-number-ne0 : goal.returns-then-number-ne0
returns-then-number-ne0 c = c.refused.ensures ∙ laws.prices-refused _ _ _ _ c.if-number-ne0.true

pub returns : goal.returns
returns c = laws.prices-given _ _ _ _ c.if-number-ne0.false
