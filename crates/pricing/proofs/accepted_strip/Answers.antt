use Prim.Native.Nat.{◌≤◌}
use native.Mathlib.Omega.{arith}
use lib.ListN.{length, take}
use Rattle.lent_tree.specs.LentTree.{Accepted}
use Rattle.price_laws.proofs.Accuracy.{tree_lent, tree-paid}
use Rattle.pricing.specs.inside.Trees.{Ready}
use Rattle.lattice.proofs.TreeEntries.{row-ok}
use Rattle.pricing.proofs.EntryLaws.{prefix-room, prefix-is, prefix-length}
use Rattle.pricing.proofs.accepted_strip.Goals as goal
use Rattle.pricing.proofs.accepted_strip.Goals.{After-table_of-table, Start}

-- the tree is accepted, with its flows
tree : (s : Start) → Accepted s.args.tree.steps s.args.tree.reversion s.args.discounts.now
tree s = tree_lent _ _ _ _ s.requires.0

pub unwrap-nodes-requires : goal.unwrap-nodes-requires
unwrap-nodes-requires c =
    let t = tree (goal.at.unwrap-nodes-requires c).Start in
    row-ok _ _ _ _ c.node_count.ensures t.limits.reversion-within-limit t.limits.steps-within-limit

pub table_of-table-requires : goal.table_of-table-requires
table_of-table-requires c =
    let t = tree (goal.at.table_of-table-requires c).Start in
    (t.limits.steps-within-limit, t.limits.reversion-within-limit)

-- the table that is lent on
room : (c : After-table_of-table) → c.unwrap-nodes.result ≤ length c.table_of-table.result
room c =
    let t = tree (goal.at.After-table_of-table c).Start in
    prefix-room _ _ t.limits.steps-within-limit t.limits.reversion-within-limit _ _ (rw c.unwrap-nodes.ensures at c.node_count.ensures) c.table_of-table.ensures

ready : (c : After-table_of-table) → let a = c.args in
    Ready a.tree.steps a.tree.reversion (take c.unwrap-nodes.result c.table_of-table.result) a.discounts.now a.flows.now
ready c =
    let t = tree (goal.at.After-table_of-table c).Start in
    record {
      tree = t;
      paid = tree-paid _ _ _ _ c.requires.0;
      table = prefix-is _ _ t.limits.steps-within-limit t.limits.reversion-within-limit _ _ (rw c.unwrap-nodes.ensures at c.node_count.ensures) c.table_of-table.ensures;
    }

pub slice_bounds-table-end : goal.slice_bounds-table-end
slice_bounds-table-end c = room (goal.at.slice_bounds-table-end c).After-table_of-table

pub slice_bounds-keep_bond-end : goal.slice_bounds-keep_bond-end
slice_bounds-keep_bond-end c = prefix-length _ _ (room (goal.at.slice_bounds-keep_bond-end c).After-table_of-table)

pub keep_bond-bond-requires : goal.keep_bond-bond-requires
keep_bond-bond-requires c = (ready (goal.at.keep_bond-bond-requires c).After-table_of-table, omega (arith, c.discount_room-kept.ensures))

pub slice_bounds-table-end-2 : goal.slice_bounds-table-end-2
slice_bounds-table-end-2 c = room (goal.at.slice_bounds-table-end-2 c).After-table_of-table

pub slice_bounds-strike_prices-end-2 : goal.slice_bounds-strike_prices-end-2
slice_bounds-strike_prices-end-2 c = prefix-length _ _ (room (goal.at.slice_bounds-strike_prices-end-2 c).After-table_of-table)

pub strike_prices-requires : goal.strike_prices-requires
strike_prices-requires c = (
  record {
    ready = ready (goal.at.strike_prices-requires c).After-table_of-table;
    none = c.requires.0;
    list-is = c.dates_cause.ensures;
    marks-are = c.marks_of-marks.ensures;
    bond-is = c.keep_bond-bond.ensures;
    room = omega (arith, c.keep_bond-bond.auto.kept, c.discount_room-kept.ensures);
  },
  c.requires.1,
)
