use Rattle.shelf_prices.proofs.PriceLaws.{carried-refused, carried-given}
use Rattle.shelf_prices.proofs.carried.Goals as goal

pub returns-then-value-ne0 : goal.returns-then-value-ne0
returns-then-value-ne0 c = carried-refused _ _ c.if-value-ne0.true

pub returns : goal.returns
returns c = carried-given _ _ c.if-value-ne0.false
