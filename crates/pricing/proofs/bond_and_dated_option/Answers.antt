use mathlib.Core.Path.{◌∙◌}
use Rattle.arithmetic.proofs.Implied.{implied}
use Rattle.price_laws.proofs.ValueLaws.{dates-whole}
use Rattle.pricing.proofs.bond_and_dated_option.Goals as goal

pub both_on_dates-requires : goal.both_on_dates-requires
both_on_dates-requires c = c.tree_bound-bound.ensures.cause-is

pub returns : goal.returns
returns c = c.both_on_dates.ensures ∙ dates-whole implied c.tree_bound-bound.ensures.bound-is _ _ _
