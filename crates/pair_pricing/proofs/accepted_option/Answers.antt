use mathlib.Core.Path.{◌∙◌}
use Rattle.lattice.proofs.TreeEntries.{row-ok}
use Rattle.pricing.proofs.EntryLaws.{prefix-room, prefix-is, prefix-length}
use Rattle.exercise.specs.Terms.{side}
use Rattle.pricing_laws.specs.inside.Marks.{marked}
use Rattle.pair_laws.proofs.EntryLaws.{option-above, option-given}
use Rattle.pair_pricing.proofs.accepted_option.Goals as goal

pub unwrap-rate_nodes-requires : goal.unwrap-rate_nodes-requires
unwrap-rate_nodes-requires c =
    let a = c.requires.0.trees.rate-tree in
    row-ok _ _ _ _ c.node_count.ensures a.limits.reversion-within-limit a.limits.steps-within-limit

pub unwrap-spread_nodes-requires : goal.unwrap-spread_nodes-requires
unwrap-spread_nodes-requires c =
    let a = c.requires.0.trees.spread-tree in
    row-ok _ _ _ _ c.node_count-2.ensures a.limits.reversion-within-limit a.limits.steps-within-limit

pub slice_bounds-rate_table-end : goal.slice_bounds-rate_table-end
slice_bounds-rate_table-end c =
    let a = c.requires.0.trees.rate-tree in
    prefix-room _ _ a.limits.steps-within-limit a.limits.reversion-within-limit _ _ (rw c.unwrap-rate_nodes.ensures at c.node_count.ensures)
    c.table_of-rate_table.ensures

pub slice_bounds-roll_option-end : goal.slice_bounds-roll_option-end
slice_bounds-roll_option-end c =
    let a = c.requires.0.trees.rate-tree in
    prefix-length _ _
    (prefix-room _ _ a.limits.steps-within-limit a.limits.reversion-within-limit _ _ (rw c.unwrap-rate_nodes.ensures at c.node_count.ensures)
    c.table_of-rate_table.ensures)

pub slice_bounds-spread_table-end : goal.slice_bounds-spread_table-end
slice_bounds-spread_table-end c =
    let a = c.requires.0.trees.spread-tree in
    prefix-room _ _ a.limits.steps-within-limit a.limits.reversion-within-limit _ _ (rw c.unwrap-spread_nodes.ensures at c.node_count-2.ensures)
    c.table_of-spread_table.ensures

pub slice_bounds-roll_option-end-2 : goal.slice_bounds-roll_option-end-2
slice_bounds-roll_option-end-2 c =
    let a = c.requires.0.trees.spread-tree in
    prefix-length _ _
    (prefix-room _ _ a.limits.steps-within-limit a.limits.reversion-within-limit _ _ (rw c.unwrap-spread_nodes.ensures at c.node_count-2.ensures)
    c.table_of-spread_table.ensures)

pub roll_option-number-requires : goal.roll_option-number-requires
roll_option-number-requires c =
    let r = c.requires.0.trees.rate-tree in
    let q = c.requires.0.trees.spread-tree in (
      c.requires.0,
      record {
        rate-table = prefix-is _ _ r.limits.steps-within-limit r.limits.reversion-within-limit _ _ (rw c.unwrap-rate_nodes.ensures at c.node_count.ensures)
            c.table_of-rate_table.ensures;
        spread-table = prefix-is _ _ q.limits.steps-within-limit q.limits.reversion-within-limit _ _ (rw c.unwrap-spread_nodes.ensures at c.node_count-2.ensures)
            c.table_of-spread_table.ensures;
      },
      c.requires.1,
    )

pub returns-then-number-ne0 : goal.returns-then-number-ne0
returns-then-number-ne0 c =
    let t = c.args.trees in
    let m = c.args.terms in
    c.refused.ensures
    ∙ option-above t.steps t.rate t.spread c.args.rates.now c.args.spreads.now c.args.flows.now c.requires.0
    (side m.call) m.strike (marked m.last c.args.marks.now) _ _ _ c.roll_option-number.ensures c.if-number-ne0.true

pub error_bound-requires : goal.error_bound-requires
error_bound-requires c =
    c.requires.0.trees

pub returns : goal.returns
returns c =
    let t = c.args.trees in
    let m = c.args.terms in
    option-given t.steps t.rate t.spread c.args.rates.now c.args.spreads.now c.args.flows.now c.requires.0
    (side m.call) m.strike (marked m.last c.args.marks.now) _ _ _ c.roll_option-number.ensures _ c.if-number-ne0.false c.error_bound.ensures
