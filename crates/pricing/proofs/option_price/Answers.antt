use mathlib.Core.Path.{ap}
use Rattle.price_laws.specs.declared.BondAndOption.{BondAndOption}
use Rattle.pricing.proofs.option_price.Goals as goal

pub returns : goal.returns
returns c = ap (λ (r : BondAndOption). r.option) c.bond_and_option-both.ensures
