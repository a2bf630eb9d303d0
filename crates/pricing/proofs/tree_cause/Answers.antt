use mathlib.Core.Path.{ap₂, ◌∙◌}
use Rattle.arithmetic.specs.Answers.{lowest_cause}
use Rattle.price_laws.specs.Prices.{tree_cause}
use Rattle.pricing.proofs.tree_cause.Goals as goal

pub returns : goal.returns
unfolding tree_cause
returns c =
    c.cause.ensures ∙ c.lowest_refusal-cause.ensures ∙ ap₂ lowest_cause c.discounts_cause.ensures c.flows_cause.ensures
