use mathlib.Core.Path.{sym, ◌∙◌}
use Rattle.arithmetic.proofs.Implied.{implied}
use Rattle.price_laws.proofs.Accuracy.{tree_lent, tree-paid}
use Rattle.price_laws.proofs.ValueLaws.{bond-refused, bond-passed}
use Rattle.pricing.proofs.judged_bond.Goals as goal

pub returns-then-bound-ne0 : goal.returns-then-bound-ne0
returns-then-bound-ne0 c = c.refused.ensures ∙ bond-refused implied c.requires c.if-bound-ne0.true

pub accepted_bond-requires : goal.accepted_bond-requires
accepted_bond-requires c =
    let none = sym c.requires ∙ c.if-bound-ne0.false in
    (tree_lent _ _ _ _ none, tree-paid _ _ _ _ none)

pub returns : goal.returns
returns c = bond-passed implied (sym c.requires ∙ c.if-bound-ne0.false) c.accepted_bond.ensures
