use Rattle.std.proofs.Common.{arith}
use Rattle.fitting.proofs.TreeRows as laws
use Rattle.fitting.proofs.rows.tree_row.Goals as goal

pub overflow_sub-at : goal.overflow_sub-at
overflow_sub-at c = omega (arith, c.requires.in_tree)

pub overflow_add-end : goal.overflow_add-end
overflow_add-end c =
    let limits = c.requires.tables.limits in
    omega (
      arith,
      laws.shape-room limits.reversion-within-limit limits.steps-within-limit c.requires.in_tree c.row_shape-shape.ensures,
    )

pub offset_bounds-factors-offset : goal.offset_bounds-factors-offset
offset_bounds-factors-offset c =
    let limits = c.requires.tables.limits in
    omega (
      arith,
      laws.shape-room limits.reversion-within-limit limits.steps-within-limit c.requires.in_tree c.row_shape-shape.ensures,
    )

pub slice_bounds-fit_row-end : goal.slice_bounds-fit_row-end
slice_bounds-fit_row-end c =
    let limits = c.requires.tables.limits in
    omega (
      arith,
      laws.shape-room limits.reversion-within-limit limits.steps-within-limit c.requires.in_tree c.row_shape-shape.ensures,
      c.requires.tables.factors-bounded.length-is,
    )

pub offset_bounds-downs-offset : goal.offset_bounds-downs-offset
offset_bounds-downs-offset c =
    let limits = c.requires.tables.limits in
    omega (
      arith,
      laws.shape-room limits.reversion-within-limit limits.steps-within-limit c.requires.in_tree c.row_shape-shape.ensures,
    )

pub slice_bounds-fit_row-end-2 : goal.slice_bounds-fit_row-end-2
slice_bounds-fit_row-end-2 c =
    let limits = c.requires.tables.limits in
    omega (
      arith,
      laws.shape-room limits.reversion-within-limit limits.steps-within-limit c.requires.in_tree c.row_shape-shape.ensures,
      c.requires.tables.downs-length,
    )

pub fit_row-requires : goal.fit_row-requires
fit_row-requires c =
    let limits = c.requires.tables.limits in
    laws.shaped-ready c.requires
    (laws.shape-known limits.reversion-within-limit limits.steps-within-limit c.requires.in_tree c.row_shape-shape.ensures)

pub returns : goal.returns
returns c =
    let limits = c.requires.tables.limits in
    laws.shaped-fitted c.requires
    (laws.shape-known limits.reversion-within-limit limits.steps-within-limit c.requires.in_tree c.row_shape-shape.ensures)
    c.fit_row.ensures
