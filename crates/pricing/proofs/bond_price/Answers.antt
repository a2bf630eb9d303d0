use mathlib.Core.Path.{◌∙◌}
use Rattle.arithmetic.proofs.Implied.{implied}
use Rattle.price_laws.proofs.ValueLaws.{bond-whole}
use Rattle.pricing.proofs.bond_price.Goals as goal

pub judged_bond-requires : goal.judged_bond-requires
judged_bond-requires c = c.tree_bound-bound.ensures.cause-is

pub returns : goal.returns
returns c = c.judged_bond.ensures ∙ bond-whole implied c.tree_bound-bound.ensures.bound-is
