use mathlib.Core.Path.{ap, ◌∙◌}
use Rattle.arithmetic.proofs.Implied.{implied}
use Rattle.price_laws.specs.Prices.{both_values}
use Rattle.price_laws.proofs.ValueLaws.{dates-values-again}
use Rattle.pricing.proofs.bond_and_dated_option_values.Goals as goal

pub both_on_dates-requires : goal.both_on_dates-requires
both_on_dates-requires c = c.tree_cause-cause.ensures

pub returns : goal.returns
returns c = c.values_of.ensures ∙ ap both_values c.both_on_dates.ensures ∙ dates-values-again implied _ _ _ _
