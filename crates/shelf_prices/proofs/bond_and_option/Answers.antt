use Rattle.std.proofs.Common.{◌∙◌, refl}
use Rattle.arithmetic.proofs.Implied.{implied}
use Rattle.shelf_prices.proofs.PriceLaws.{both-none, both-there}
use Rattle.shelf_prices.proofs.bond_and_option.Goals as goal

pub returns-in_default : goal.returns-in_default
returns-in_default c = c.no_prices.ensures ∙ both-none implied refl c.in_default.ensures

pub returns : goal.returns
returns c =
    let found = c.in-Some.ensures in
    both-there implied found.0 found.1 _ (rw found.2 at c.bond_and_option_values-values.ensures) _ _ c.carried.ensures c.carried-2.ensures
