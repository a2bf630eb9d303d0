use Rattle.std.proofs.Common.{◌∙◌, refl, arith}
use Rattle.lattice.proofs.TreeEntries.{row-ok}
use Rattle.pricing.proofs.EntryLaws.{prefix-room, prefix-is, prefix-length, bond-refused, bond-given}
use Rattle.pricing.proofs.accepted_bond.Goals as goal

pub unwrap-nodes-requires : goal.unwrap-nodes-requires
unwrap-nodes-requires c =
    let within = c.requires.0.limits in
    row-ok _ _ _ _ c.node_count.ensures within.reversion-within-limit within.steps-within-limit

pub slice_bounds-table-end : goal.slice_bounds-table-end
slice_bounds-table-end c =
    let within = c.requires.0.limits in
    prefix-room _ _ within.steps-within-limit within.reversion-within-limit _ _ (rw c.unwrap-nodes.ensures at c.node_count.ensures) c.table_of-table.ensures

pub slice_bounds-roll_bond-end : goal.slice_bounds-roll_bond-end
slice_bounds-roll_bond-end c =
    let few = c.requires.0.limits.steps-within-limit in
    let low = c.requires.0.limits.reversion-within-limit in
    prefix-length _ _ (prefix-room _ _ few low _ _ (rw c.unwrap-nodes.ensures at c.node_count.ensures) c.table_of-table.ensures)

pub roll_bond-requires : goal.roll_bond-requires
roll_bond-requires c =
    let within = c.requires.0.limits in (
      record {
        tree = c.requires.0;
        paid = c.requires.1;
        table = prefix-is _ _ within.steps-within-limit within.reversion-within-limit _ _ (rw c.unwrap-nodes.ensures at c.node_count.ensures) c.table_of-table.ensures;
      },
      omega arith,
    )

pub returns-in-None : goal.returns-in-None
returns-in-None c = c.refused.ensures ∙ bond-refused _ c.in-None.ensures (λ z. omega arith)

pub returns-in-Some : goal.returns-in-Some
returns-in-Some c = bond-given _ c.in-Some.ensures refl
