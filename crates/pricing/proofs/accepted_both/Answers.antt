use mathlib.Core.Path.{◌∙◌}
use Rattle.lattice.proofs.TreeEntries.{row-ok}
use Rattle.pricing.proofs.EntryLaws.{prefix-room, prefix-is, prefix-length, option-refused, option-given, beside-given}
use Rattle.pricing.proofs.accepted_both.Goals as goal

pub unwrap-nodes-requires : goal.unwrap-nodes-requires
unwrap-nodes-requires c =
    let within = c.requires.0.limits in
    row-ok _ _ _ _ c.node_count.ensures within.reversion-within-limit within.steps-within-limit

pub slice_bounds-table-end : goal.slice_bounds-table-end
slice_bounds-table-end c =
    let tree = c.requires.0 in
    prefix-room _ _ tree.limits.steps-within-limit tree.limits.reversion-within-limit _ _ (rw c.unwrap-nodes.ensures at c.node_count.ensures) c.table_of-table.ensures

pub slice_bounds-roll_both-end : goal.slice_bounds-roll_both-end
slice_bounds-roll_both-end c =
    let within = c.requires.0.limits in
    let room =
    prefix-room _ _ within.steps-within-limit within.reversion-within-limit _ _ (rw c.unwrap-nodes.ensures at c.node_count.ensures) c.table_of-table.ensures in
    prefix-length _ _ room

pub roll_both-rolled-requires : goal.roll_both-rolled-requires
roll_both-rolled-requires c =
    let tree = c.requires.0 in (
      record {
        tree = tree;
        paid = c.requires.1;
        table =
            prefix-is _ _ tree.limits.steps-within-limit tree.limits.reversion-within-limit _ _ (rw c.unwrap-nodes.ensures at c.node_count.ensures)
            c.table_of-table.ensures;
      },
      c.requires.2,
    )

pub returns-then-rolled-ne0 : goal.returns-then-rolled-ne0
returns-then-rolled-ne0 c =
    record { bond = c.accepted_bond.ensures; option = c.refused.ensures ∙ option-refused _ c.roll_both-rolled.ensures c.if-rolled-ne0.true }

pub returns : goal.returns
returns c =
    let rolled = c.roll_both-rolled.ensures in
    record { bond = beside-given _ rolled c.if-rolled-ne0.false; option = option-given _ rolled c.if-rolled-ne0.false }
