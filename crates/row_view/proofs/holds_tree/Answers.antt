use Rattle.std.proofs.Common.{refl}
use Rattle.limits.specs.WithinLimits.{WithinLimits}
use Rattle.arithmetic.proofs.Implied.{implied}
use Rattle.arithmetic.proofs.RefusalLaws.{refusal-some}
use Rattle.lattice.proofs.TreeEntries.{tree-accepted, tree-value, tree-ok}
use Rattle.row_view.proofs.ViewLaws as laws
use Rattle.row_view.proofs.holds_tree.Goals as goal
use Rattle.row_view.proofs.holds_tree.Goals.{In-Ok}

pub returns-in_default : goal.returns-in_default
returns-in_default c = laws.refused-tree implied _ _ c.in_default.ensures (refusal-some _)

accepted : (c : In-Ok) → WithinLimits c.args.steps c.args.reversion
accepted c = tree-accepted _ _ _ _ c.in-Ok.ensures refl

pub returns-then-discounts-discounts_needed : goal.returns-then-discounts-discounts_needed
returns-then-discounts-discounts_needed c =
    let l = accepted (goal.at.returns-then-discounts-discounts_needed c).In-Ok in
    laws.short-discounts implied l _ (tree-value _ _ _ _ c.in-Ok.ensures l) c.if-discounts-discounts_needed.true

pub unwrap-state_prices_needed-requires : goal.unwrap-state_prices_needed-requires
unwrap-state_prices_needed-requires c =
    tree-ok _ _ _ _ c.state_prices_needed.ensures (accepted (goal.at.unwrap-state_prices_needed-requires c).In-Ok)

pub returns : goal.returns
returns c =
    let l = accepted (goal.at.returns c).In-Ok in
    laws.long-discounts implied l _ _ (tree-value _ _ _ _ c.in-Ok.ensures l)
    (tree-value _ _ _ _ (rw c.unwrap-state_prices_needed.ensures at c.state_prices_needed.ensures) l)
    c.if-discounts-discounts_needed.false
