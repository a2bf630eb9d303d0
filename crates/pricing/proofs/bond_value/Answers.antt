use mathlib.Core.Path.{ap, ◌∙◌}
use Rattle.arithmetic.proofs.Implied.{implied}
use Rattle.price_laws.specs.Prices.{value_alone}
use Rattle.price_laws.proofs.ValueLaws.{bond-value-again}
use Rattle.pricing.proofs.bond_value.Goals as goal

pub judged_bond-requires : goal.judged_bond-requires
judged_bond-requires c = c.tree_cause-cause.ensures

pub returns : goal.returns
returns c = c.value_of.ensures ∙ ap value_alone c.judged_bond.ensures ∙ bond-value-again implied _
