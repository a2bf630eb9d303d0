use mathlib.Core.Path.{refl}
use Prim.Native.Nat.{◌+◌, ◌≤◌}
use native.Mathlib.Omega.{arith}
use lib.ListN.{length}
use Rattle.arithmetic.proofs.Implied.{implied}
use Rattle.row_view.proofs.ViewLaws as laws
use Rattle.row_view.proofs.row_view.Goals as goal
use Rattle.row_view.proofs.row_view.Goals.{After-struct_known-1}

within :
    (c : After-struct_known-1) →
    let r = c.row_range-range.result in
    r.start + r.count ≤ length c.memory_of-memory.result.now
within c =
    laws.range-within implied c.memory_of-memory.ensures c.row_range-range.ensures

pub overflow_add-end : goal.overflow_add-end
overflow_add-end c = omega (arith, within c)

pub offset_bounds-memory-start : goal.offset_bounds-memory-start
offset_bounds-memory-start c = omega (arith, within c)

pub slice_bounds-result-end : goal.slice_bounds-result-end
slice_bounds-result-end c = within c

pub returns : goal.returns
returns c =
    let r = c.row_range-range.result in
    laws.range-part implied c.memory_of-memory.ensures c.row_range-range.ensures
    (record { block = refl; offset = refl; contents = laws.part-between _ r.start r.count })
