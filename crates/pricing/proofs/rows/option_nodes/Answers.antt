use Rattle.std.proofs.Common.{◌≡◌, ℕ, ◌+◌, ◌<◌, length, ap, arith}
use Rattle.arithmetic.proofs.Implied.{implied}
use Rattle.exercise.specs.Terms.{side}
use Rattle.row_branches.specs.RowBranches.{row_branch}
use Rattle.pricing.proofs.RowSteps.{span-asks, span-is, branch-asks, branch-rolled, option-from-roll, rows_next}
use Rattle.pricing.proofs.rows.option_nodes.Goals as goal
use Rattle.pricing.proofs.rows.option_nodes.Goals.{After-span_branch-branch}

pub span_branch-branch-requires : goal.span_branch-branch-requires
span_branch-branch-requires c = span-asks _ _ _ _ c.requires.0 c.requires.6 c.loop-k.auto.k c.loop-k-test.true

-- the node's branch is the row's
branch : (c : After-span_branch-branch) → c.span_branch-branch.result ≡ row_branch c.args.downs.now c.args.span.next c.loop-k.k
branch c =
    span-is _ c.args.discounts.now _ _ c.requires.0 c.requires.6 c.loop-k.auto.k c.loop-k-test.true _ c.span_branch-branch.ensures

pub roll_node-bare-requires : goal.roll_node-bare-requires
roll_node-bare-requires c =
    branch-asks c.requires.0 c.requires.1 (omega (arith, c.requires.6.ends)) _
    (branch (goal.at.roll_node-bare-requires c).After-span_branch-branch)

pub roll_node-roll-requires : goal.roll_node-roll-requires
roll_node-roll-requires c =
    branch-asks c.requires.0 c.requires.2 (omega (arith, c.requires.6.ends)) _
    (branch (goal.at.roll_node-roll-requires c).After-span_branch-branch)

pub loop-k-preserved : goal.loop-k-preserved
loop-k-preserved c =
    let right = c.args.right in
    let l = c.loop-k in
    let h : l.k < length c.args.discounts.now = omega (arith, c.requires.6.ends) in
    let e = branch (goal.at.loop-k-preserved c).After-span_branch-branch in
    let bare = branch-rolled c.requires.0 c.requires.1 h _ e _ c.roll_node-bare.ensures.0 in
    let roll = branch-rolled c.requires.0 c.requires.2 h _ e _ c.roll_node-roll.ensures.0 in
    rows_next _ l.bond _ l.option _ _ l.top l.k _ _ _ _ l.invariant (omega arith) (omega arith)
    (ap (λ (x : ℕ). x + right.flow) bare)
    (option-from-roll (side right.call) right.strike right.listed implied bare roll c.held_value-held.ensures)
    c.larger.ensures c.larger-top.ensures
