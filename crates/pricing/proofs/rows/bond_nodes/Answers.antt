use Rattle.std.proofs.Common.{ℕ, ◌+◌, ◌<◌, length, ap, arith}
use Rattle.pricing.proofs.RowSteps.{span-asks, span-is, branch-asks, branch-rolled, row_next}
use Rattle.pricing.proofs.rows.bond_nodes.Goals as goal

pub span_branch-branch-requires : goal.span_branch-branch-requires
span_branch-branch-requires c = span-asks _ _ _ _ c.requires.0 c.requires.4 c.loop-k.auto.k c.loop-k-test.true

pub roll_node-requires : goal.roll_node-requires
roll_node-requires c =
    branch-asks c.requires.0 c.requires.1 (omega (arith, c.requires.4.ends)) _
    (span-is _ _ _ _ c.requires.0 c.requires.4 c.loop-k.auto.k c.loop-k-test.true _ c.span_branch-branch.ensures)

pub loop-k-preserved : goal.loop-k-preserved
loop-k-preserved c =
    let l = c.loop-k in
    let h : l.k < length c.args.discounts.now = omega (arith, c.requires.4.ends) in
    let e = span-is _ _ _ _ c.requires.0 c.requires.4 l.auto.k c.loop-k-test.true _ c.span_branch-branch.ensures in
    let rolled = branch-rolled c.requires.0 c.requires.1 h _ e _ c.roll_node.ensures.0 in
    row_next _ l.row _ l.top l.k _ _ l.invariant (omega arith) (ap (λ (x : ℕ). x + c.args.flow) rolled) c.larger-top.ensures
