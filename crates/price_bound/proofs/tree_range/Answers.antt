use Rattle.std.proofs.Common.{◌≡◌, sym, refl, arith}
use Rattle.arithmetic.proofs.RowLaws.{filled-start, filled_next, each_none, each_more}
use Rattle.price_bound.proofs.BoundLaws.{rows-filled, rows-refused, rows-accepted}
use Rattle.price_bound.proofs.tree_range.Goals as goal

pub loop-row-init : goal.loop-row-init
loop-row-init c = (each_none _, rw c.no_rows-rows.ensures (filled-start _ _))

pub row_range-requires : goal.row_range-requires
row_range-requires c = (c.requires, omega arith)

pub offset_bounds-rows-row : goal.offset_bounds-rows-row
offset_bounds-rows-row c = omega (arith, c.requires.limits.steps-within-limit)

pub bounds-rows-row : goal.bounds-rows-row
bounds-rows-row c = omega (arith, c.requires.limits.steps-within-limit)

pub returns : goal.returns
returns c =
    let end : c.loop-row.row ≡ c.args.steps = omega arith in
    (sym (rows-accepted _ _ _ c.loop-row.row end c.loop-row.invariant.0), rows-filled _ _ _ _ (rw end at c.loop-row.invariant.1))

pub returns-in_err-rows : goal.returns-in_err-rows
returns-in_err-rows c =
    rw c.from_residual.ensures (sym (rows-refused _ _ _ c.loop-row.row _ (omega arith) refl c.in_err-rows.ensures))

pub loop-row-preserved : goal.loop-row-preserved
loop-row-preserved c = (
  each_more _ _ c.loop-row.invariant.0 c.in_ok-rows.ensures.0,
  filled_next c.loop-row.invariant.1 (omega (arith, c.requires.limits.steps-within-limit)) c.in_ok-rows.ensures.1,
)
