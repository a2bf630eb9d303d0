use mathlib.Core.Path.{◌∙◌}
use native.Mathlib.Omega.{arith}
use Rattle.lattice.proofs.TreeEntries.{row-ok}
use Rattle.pricing.proofs.EntryLaws.{prefix-room, prefix-is, prefix-length}
use Rattle.pair_laws.proofs.EntryLaws.{bond-above, bond-given}
use Rattle.pair_pricing.proofs.accepted_bond.Goals as goal

pub unwrap-rate_nodes-requires : goal.unwrap-rate_nodes-requires
unwrap-rate_nodes-requires c =
    let a = c.requires.trees.rate-tree in
    row-ok _ _ _ _ c.node_count.ensures a.limits.reversion-within-limit a.limits.steps-within-limit

pub unwrap-spread_nodes-requires : goal.unwrap-spread_nodes-requires
unwrap-spread_nodes-requires c =
    let a = c.requires.trees.spread-tree in
    row-ok _ _ _ _ c.node_count-2.ensures a.limits.reversion-within-limit a.limits.steps-within-limit

pub slice_bounds-rate_table-end : goal.slice_bounds-rate_table-end
slice_bounds-rate_table-end c =
    let a = c.requires.trees.rate-tree in
    prefix-room _ _ a.limits.steps-within-limit a.limits.reversion-within-limit _ _ (rw c.unwrap-rate_nodes.ensures at c.node_count.ensures)
    c.table_of-rate_table.ensures

pub slice_bounds-roll_bond-end : goal.slice_bounds-roll_bond-end
slice_bounds-roll_bond-end c =
    let a = c.requires.trees.rate-tree in
    prefix-length _ _
    (prefix-room _ _ a.limits.steps-within-limit a.limits.reversion-within-limit _ _ (rw c.unwrap-rate_nodes.ensures at c.node_count.ensures)
    c.table_of-rate_table.ensures)

pub slice_bounds-spread_table-end : goal.slice_bounds-spread_table-end
slice_bounds-spread_table-end c =
    let a = c.requires.trees.spread-tree in
    prefix-room _ _ a.limits.steps-within-limit a.limits.reversion-within-limit _ _ (rw c.unwrap-spread_nodes.ensures at c.node_count-2.ensures)
    c.table_of-spread_table.ensures

pub slice_bounds-roll_bond-end-2 : goal.slice_bounds-roll_bond-end-2
slice_bounds-roll_bond-end-2 c =
    let a = c.requires.trees.spread-tree in
    prefix-length _ _
    (prefix-room _ _ a.limits.steps-within-limit a.limits.reversion-within-limit _ _ (rw c.unwrap-spread_nodes.ensures at c.node_count-2.ensures)
    c.table_of-spread_table.ensures)

pub roll_bond-number-requires : goal.roll_bond-number-requires
roll_bond-number-requires c =
    let r = c.requires.trees.rate-tree in
    let q = c.requires.trees.spread-tree in (
      c.requires,
      record {
        rate-table = prefix-is _ _ r.limits.steps-within-limit r.limits.reversion-within-limit _ _ (rw c.unwrap-rate_nodes.ensures at c.node_count.ensures)
            c.table_of-rate_table.ensures;
        spread-table = prefix-is _ _ q.limits.steps-within-limit q.limits.reversion-within-limit _ _ (rw c.unwrap-spread_nodes.ensures at c.node_count-2.ensures)
            c.table_of-spread_table.ensures;
      },
      omega arith,
    )

pub returns-then-number-ne0 : goal.returns-then-number-ne0
returns-then-number-ne0 c =
    let t = c.args.trees in
    c.refused.ensures
    ∙ bond-above t.steps t.rate t.spread c.args.rates.now c.args.spreads.now c.args.flows.now c.requires _ _
    c.roll_bond-number.ensures c.if-number-ne0.true

pub returns : goal.returns
returns c =
    let t = c.args.trees in
    bond-given t.steps t.rate t.spread c.args.rates.now c.args.spreads.now c.args.flows.now c.requires _ _
    c.roll_bond-number.ensures _ c.if-number-ne0.false c.error_bound.ensures
