use mathlib.Core.Path.{◌≡◌, sym, ap, ◌∙◌}
use mathlib.Core.Bool.{true, false}
use Prim.Native.Nat.{◌≤◌}
use lib.ListN.{length}
use borrow.Author.Rules.{rules}
use Rattle.node_lines.specs.Rows.{is_row, has_room_for, accepted_nodes}
use Rattle.node_lines.specs.Reading.{stand_before, nodes_before}
use Rattle.node_lines.proofs.RowLaws.{accepted-found}
use Rattle.node_lines.proofs.ReadingLaws.{stand-known, before_lent, read_none, read-no-row, read_short, read-judged}
use Rattle.node_lines.proofs.row_cause.Goals as goal
use Rattle.node_lines.proofs.row_cause.Goals.{After-all_between, Else-not-has_room, Else-not-is_row, Else-not-stand_before}

pub returns-then-not-stand_before : goal.returns-then-not-stand_before
returns-then-not-stand_before c =
    let a = c.args in
    read_none a.size a.end a.row a.discounts.now a.next a.count
    (sym c.stand_before.ensures ∙ c.if-not-stand_before.true)

-- what is known where the nodes stand before the place
stands : (c : Else-not-stand_before) → let a = c.args in stand_before a.count a.next (length a.discounts.now) ≡ true
stands c = sym c.stand_before.ensures ∙ c.if-not-stand_before.false

standing : (c : Else-not-stand_before) → let a = c.args in (a.count ≤ a.next) × (a.next ≤ length a.discounts.now)
standing c = let a = c.args in stand-known a.count a.next (length a.discounts.now) (stands c)

pub returns-then-not-is_row : goal.returns-then-not-is_row
returns-then-not-is_row c =
    let a = c.args in
    read-no-row a.size a.end a.row a.discounts.now a.next a.count (stands (goal.at.returns-then-not-is_row c).Else-not-stand_before)
    (sym c.is_row.ensures ∙ c.if-not-is_row.true)

-- where the row is one
shaped : (c : Else-not-is_row) → let a = c.args in is_row a.row a.count ≡ true
shaped c = sym c.is_row.ensures ∙ c.if-not-is_row.false

pub returns-then-not-has_room : goal.returns-then-not-has_room
returns-then-not-has_room c =
    let a = c.args in
    read_short a.size a.end a.row a.discounts.now a.next a.count (stands (goal.at.returns-then-not-has_room c).Else-not-stand_before)
    (shaped (goal.at.returns-then-not-has_room c).Else-not-is_row)
    (sym c.has_room.ensures ∙ c.if-not-has_room.true)

-- where its lines have room
roomy : (c : Else-not-has_room) → let a = c.args in has_room_for a.count a.size a.end ≡ true
roomy c = sym c.has_room.ensures ∙ c.if-not-has_room.false

pub overflow_sub-next : goal.overflow_sub-next
overflow_sub-next c = (standing (goal.at.overflow_sub-next c).Else-not-stand_before).0

pub offset_bounds-discounts-next : goal.offset_bounds-discounts-next
offset_bounds-discounts-next c = let ends = (standing (goal.at.offset_bounds-discounts-next c).Else-not-stand_before).1 in search rules

pub slice_bounds-all_between-end : goal.slice_bounds-all_between-end
slice_bounds-all_between-end c = (standing (goal.at.slice_bounds-all_between-end c).Else-not-stand_before).1

-- the test that the code makes is of the nodes before the place
tested : (c : After-all_between) →
    let a = c.args in
    accepted_nodes (nodes_before a.discounts.now a.next a.count) ≡ c.all_between.result
tested c =
    let a = c.args in
    let lent =
    before_lent a.discounts.now a.next a.count (standing (goal.at.After-all_between c).Else-not-stand_before).0
    (standing (goal.at.After-all_between c).Else-not-stand_before).1 in
    ap accepted_nodes (sym lent) ∙ accepted-found _ c.all_between.result c.all_between.ensures

pub returns-then-not-all_between : goal.returns-then-not-all_between
returns-then-not-all_between c =
    let a = c.args in
    read-judged a.size a.end a.row a.discounts.now a.next a.count (stands (goal.at.returns-then-not-all_between c).Else-not-stand_before)
    (shaped (goal.at.returns-then-not-all_between c).Else-not-is_row) (roomy (goal.at.returns-then-not-all_between c).Else-not-has_room)
    false (tested (goal.at.returns-then-not-all_between c).After-all_between ∙ c.if-not-all_between.true)

pub returns : goal.returns
returns c =
    let a = c.args in
    read-judged a.size a.end a.row a.discounts.now a.next a.count (stands (goal.at.returns c).Else-not-stand_before)
    (shaped (goal.at.returns c).Else-not-is_row) (roomy (goal.at.returns c).Else-not-has_room)
    true (tested (goal.at.returns c).After-all_between ∙ c.if-not-all_between.false)
