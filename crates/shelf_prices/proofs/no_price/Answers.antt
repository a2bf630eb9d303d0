use mathlib.Core.Path.{refl}
use Rattle.shelf_prices.proofs.no_price.Goals as goal

pub returns : goal.returns
returns c = refl
