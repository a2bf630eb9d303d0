use native.Mathlib.Omega.{arith}
use lib.ListN.{length-take}
use Rattle.exhibits.proofs.wide.Goals as goal

pub slice_bounds-fit-end : goal.slice_bounds-fit-end
slice_bounds-fit-end c = simp length-take (omega arith)

pub slice_bounds-fit-end-2 : goal.slice_bounds-fit-end-2
slice_bounds-fit-end-2 c = simp length-take (omega arith)

pub slice_bounds-fit-end-3 : goal.slice_bounds-fit-end-3
slice_bounds-fit-end-3 c = simp length-take (omega arith)
