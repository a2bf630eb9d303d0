use Rattle.std.proofs.Common.{ℕ, List, ◌∙◌, refl}
use Rattle.price_laws.specs.Prices.{bond_price}
use Rattle.shelf_prices.proofs.PriceLaws.{price-none, price-there}
use Rattle.shelf_prices.proofs.bond_price.Goals as goal

pub returns-in_default : goal.returns-in_default
returns-in_default c = c.no_price.ensures ∙ price-none _ _ _ _ refl c.in_default.ensures

pub returns : goal.returns
returns c =
    let found = c.in-Some.ensures in
    price-there (λ (n b : ℕ) (d : List ℕ). bond_price n b d c.args.flows.now) _ _ _ found.0 found.1
    _ (rw found.2 at c.bond_value-value.ensures) _ c.carried.ensures
