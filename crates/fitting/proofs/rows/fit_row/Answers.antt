use Rattle.std.proofs.Common.{sym}
use Rattle.fitting.proofs.RowParts as laws
use Rattle.fitting.proofs.rows.fit_row.Goals as goal

pub slice_bounds-step_row-end-4 : goal.slice_bounds-step_row-end-4
slice_bounds-step_row-end-4 c = sym (laws.front_length c.requires)

pub step_row-requires : goal.step_row-requires
step_row-requires c = laws.row-asks c.requires

pub returns-then-not-step_row : goal.returns-then-not-step_row
returns-then-not-step_row c = laws.row-refused c.requires c.step_row.ensures c.step_row.auto.discounts c.if-not-step_row.true

pub slice_bounds-divide-end-2 : goal.slice_bounds-divide-end-2
slice_bounds-divide-end-2 c =
    sym (laws.front-again c.requires c.step_row.ensures c.step_row.auto.discounts c.if-not-step_row.false)

pub divide-requires : goal.divide-requires
divide-requires c = laws.divide-asks c.requires c.step_row.ensures c.step_row.auto.discounts c.if-not-step_row.false

pub returns : goal.returns
returns c =
    laws.row-accepted c.requires c.step_row.ensures c.step_row.auto.discounts c.if-not-step_row.false c.divide.ensures
