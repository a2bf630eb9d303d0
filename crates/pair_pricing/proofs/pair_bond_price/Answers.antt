use Rattle.std.proofs.Common.{◌∙◌}
use Rattle.arithmetic.proofs.Implied.{implied}
use Rattle.pair_laws.proofs.EntryLaws.{entry-accepted, bond-refused, bond-found}
use Rattle.pair_pricing.proofs.pair_bond_price.Goals as goal

pub returns-then-cause-ne0 : goal.returns-then-cause-ne0
returns-then-cause-ne0 c = bond-refused implied (c.cause-cause.ensures ∙ c.pair_cause.ensures) c.refused.ensures c.if-cause-ne0.true

pub accepted_bond-requires : goal.accepted_bond-requires
accepted_bond-requires c = entry-accepted _ (c.cause-cause.ensures ∙ c.pair_cause.ensures) c.if-cause-ne0.false

pub returns : goal.returns
returns c = bond-found implied (c.cause-cause.ensures ∙ c.pair_cause.ensures) c.if-cause-ne0.false c.accepted_bond.ensures
