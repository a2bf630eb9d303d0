use mathlib.Core.Path.{ap}
use Rattle.price_laws.specs.declared.Price.{Price}
use Rattle.shelf_prices.proofs.no_prices.Goals as goal

pub returns : goal.returns
returns c = ap (λ (p : Price). record { bond = p; option = p }) c.no_price-none.ensures
