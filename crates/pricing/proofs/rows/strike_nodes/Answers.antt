use Rattle.std.proofs.Common.{◌<◌, length, arith}
use Rattle.arithmetic.proofs.Implied.{implied}
use Rattle.exercise.specs.Terms.{side}
use Rattle.pricing.proofs.RowSteps.{span-asks, span-is, branch-asks, branch-rolled, row_next}
use Rattle.pricing.proofs.StripRows.{strike-from-roll}
use Rattle.pricing.proofs.rows.strike_nodes.Goals as goal

pub span_branch-branch-requires : goal.span_branch-branch-requires
span_branch-branch-requires c = span-asks _ _ _ _ c.requires.0 c.requires.4 c.loop-k.auto.k c.loop-k-test.true

pub roll_node-roll-requires : goal.roll_node-roll-requires
roll_node-roll-requires c =
    branch-asks c.requires.0 c.requires.1 (omega (arith, c.requires.4.ends)) _
    (span-is _ _ _ _ c.requires.0 c.requires.4 c.loop-k.auto.k c.loop-k-test.true _ c.span_branch-branch.ensures)

pub loop-k-preserved : goal.loop-k-preserved
loop-k-preserved c =
    let right = c.args.right in
    let l = c.loop-k in
    let h : l.k < length c.args.discounts.now = omega (arith, c.requires.4.ends) in
    let e = span-is _ _ _ _ c.requires.0 c.requires.4 l.auto.k c.loop-k-test.true _ c.span_branch-branch.ensures in
    let roll = branch-rolled c.requires.0 c.requires.1 h _ e _ c.roll_node-roll.ensures.0 in
    row_next _ l.option _ l.top l.k _ _ l.invariant (omega arith)
    (strike-from-roll (side right.call) right.strike right.listed c.args.bare.now implied roll c.held_value-held.ensures)
    c.larger-top.ensures
