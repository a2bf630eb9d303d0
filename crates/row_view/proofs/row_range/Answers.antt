use mathlib.Core.Path.{◌≡◌, sym, ◌∙◌}
use mathlib.Core.Bool.{true}
use Prim.Native.Nat.{◌≤◌}
use Rattle.arithmetic.proofs.Implied.{implied}
use Rattle.lattice.proofs.TreeEntries.{row-value, row-ok}
use Rattle.row_view.specs.RowView.{holds_tree, stores_row}
use Rattle.row_view.proofs.ViewLaws as laws
use Rattle.row_view.proofs.row_range.Goals as goal
use Rattle.row_view.proofs.row_range.Goals.{Else-not-holds_tree, Else-not-stores_row}

pub returns-then-not-holds_tree : goal.returns-then-not-holds_tree
returns-then-not-holds_tree c =
    laws.hidden-range implied
    (laws.not-held implied (sym c.holds_tree.ensures ∙ c.if-not-holds_tree.true))

pub returns-then-not-stores_row : goal.returns-then-not-stores_row
returns-then-not-stores_row c =
    laws.hidden-range implied
    (laws.not-stored implied (sym c.stores_row.ensures ∙ c.if-not-stores_row.true))

held :
    (c : Else-not-holds_tree) →
    let a = c.args in
    holds_tree a.steps a.reversion a.discounts.now a.state_prices.now ≡ true
held c = sym c.holds_tree.ensures ∙ c.if-not-holds_tree.false

stored :
    (c : Else-not-stores_row) →
    let a = c.args in
    stores_row a.kind a.steps a.row ≡ true
stored c = sym c.stores_row.ensures ∙ c.if-not-stores_row.false

-- the row is within the tree
room : (c : Else-not-stores_row) → (c.args.reversion ≤ 6000) × (c.args.row ≤ 60)
room c =
    let a = c.args in
    let h = sym c.holds_tree.ensures ∙ c.if-not-holds_tree.false in
    let r = laws.row_room a.discounts a.state_prices a.kind a.steps a.reversion a.row (laws.holding _ _ _ _ h) (stored c) in
    (r.0, r.1)

pub unwrap-first-requires : goal.unwrap-first-requires
unwrap-first-requires c =
    let r = room (goal.at.unwrap-first-requires c).Else-not-stores_row in
    row-ok _ _ _ _ c.row_start.ensures r.0 r.1

pub unwrap-nodes-requires : goal.unwrap-nodes-requires
unwrap-nodes-requires c =
    let r = room (goal.at.unwrap-nodes-requires c).Else-not-stores_row in
    row-ok _ _ _ _ c.node_count.ensures r.0 r.1

pub returns : goal.returns
returns c =
    let h = held (goal.at.returns c).Else-not-holds_tree in
    let s = stored (goal.at.returns c).Else-not-stores_row in
    let r = room (goal.at.returns c).Else-not-stores_row in
    laws.shown-range implied _ _ (laws.is-stored implied h s)
    (row-value _ _ _ _ (rw c.unwrap-first.ensures at c.row_start.ensures) r.0 r.1)
    (row-value _ _ _ _ (rw c.unwrap-nodes.ensures at c.node_count.ensures) r.0 r.1)
