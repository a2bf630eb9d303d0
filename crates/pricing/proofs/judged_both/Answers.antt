use mathlib.Core.Path.{◌≡◌, sym, ◌∙◌}
use native.Mathlib.Omega.{arith}
use Rattle.arithmetic.proofs.Implied.{implied}
use Rattle.lent_tree.specs.LentTree.{Accepted}
use Rattle.price_laws.specs.Prices.{tree_cause}
use Rattle.price_laws.proofs.Accuracy.{tree_lent, tree-paid}
use Rattle.price_laws.proofs.AnswerLaws.{marked-price}
use Rattle.price_laws.proofs.ValueLaws as answers
use Rattle.pricing.specs.inside.Trees.{ExercisedOn}
use Rattle.pricing.proofs.EntryLaws.{marks-exercisable}
use Rattle.pricing.proofs.judged_both.Goals as goal
use Rattle.pricing.proofs.judged_both.Goals.{Else-bound-ne0, Else-cause-ne0}

pub returns-then-bound-ne0 : goal.returns-then-bound-ne0
returns-then-bound-ne0 c =
    record {
      bond = c.refused.ensures ∙ answers.bond-refused implied c.requires.0 c.if-bound-ne0.true;
      option = c.refused-then-bound-ne0.ensures ∙ answers.option-refused implied c.requires.0 c.if-bound-ne0.true;
    }

none : (c : Else-bound-ne0) → let a = c.args in tree_cause a.tree.steps a.tree.reversion a.discounts.now a.flows.now ≡ 0
none c = sym c.requires.0 ∙ c.if-bound-ne0.false

tree : (c : Else-bound-ne0) → let a = c.args in Accepted a.tree.steps a.tree.reversion a.discounts.now
tree c = tree_lent _ _ _ _ (none c)

pub accepted_bond-requires : goal.accepted_bond-requires
accepted_bond-requires c =
    (tree (goal.at.accepted_bond-requires c).Else-bound-ne0, tree-paid _ _ _ _ (none (goal.at.accepted_bond-requires c).Else-bound-ne0))

pub returns-then-cause-ne0 : goal.returns-then-cause-ne0
returns-then-cause-ne0 c =
    let free = none (goal.at.returns-then-cause-ne0 c).Else-bound-ne0 in
    record {
      bond = answers.bond-passed implied free c.accepted_bond.ensures;
      option = c.refused-then-cause-ne0.ensures ∙ answers.option-cause implied free c.if-cause-ne0.true;
    }

-- where there is no cause about the option either
exercised : (c : Else-cause-ne0) → let a = c.args in ExercisedOn a.terms a.tree.steps a.dates.now
exercised c = c.requires.1 c.if-cause-ne0.false (tree (goal.at.Else-cause-ne0 c).Else-bound-ne0).limits.steps-within-limit

pub accepted_both-requires : goal.accepted_both-requires
accepted_both-requires c =
    let on = exercised (goal.at.accepted_both-requires c).Else-cause-ne0 in
    let on-tree = tree (goal.at.accepted_both-requires c).Else-bound-ne0 in (
      on-tree,
      tree-paid _ _ _ _ (none (goal.at.accepted_both-requires c).Else-bound-ne0),
      marks-exercisable _ _ _ _ on on-tree.limits.steps-within-limit c.marks_of-marks.ensures,
    )

pub returns : goal.returns
returns c =
    let free = none (goal.at.returns c).Else-bound-ne0 in
    let on = exercised (goal.at.returns c).Else-cause-ne0 in
    let few = (tree (goal.at.returns c).Else-bound-ne0).limits.steps-within-limit in
    record {
      bond = answers.bond-passed implied free c.accepted_both.ensures.bond;
      option = answers.option-passed implied free c.if-cause-ne0.false
          (marked-price _ _ _ _ implied (omega (arith, on.before-end)) on.last-listed c.marks_of-marks.ensures
          c.accepted_both.ensures.option);
    }
