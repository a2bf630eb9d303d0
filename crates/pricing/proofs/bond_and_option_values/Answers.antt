use mathlib.Core.Path.{ap, ◌∙◌}
use Rattle.arithmetic.proofs.Implied.{implied}
use Rattle.price_laws.specs.Prices.{both_values}
use Rattle.price_laws.proofs.ValueLaws.{kind-values-again}
use Rattle.pricing.proofs.bond_and_option_values.Goals as goal

pub both_of_kind-requires : goal.both_of_kind-requires
both_of_kind-requires c = c.tree_cause-cause.ensures

pub returns : goal.returns
returns c = c.values_of.ensures ∙ ap both_values c.both_of_kind.ensures ∙ kind-values-again implied _ _ _ _
