use mathlib.Core.Path.{◌∙◌}
use Rattle.arithmetic.proofs.Implied.{implied}
use Rattle.price_laws.proofs.ValueLaws.{kind-whole}
use Rattle.pricing.proofs.bond_and_option.Goals as goal

pub both_of_kind-requires : goal.both_of_kind-requires
both_of_kind-requires c = c.tree_bound-bound.ensures.cause-is

pub returns : goal.returns
returns c = c.both_of_kind.ensures ∙ kind-whole implied c.tree_bound-bound.ensures.bound-is _ _ _
