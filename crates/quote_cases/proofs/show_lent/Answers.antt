use native.Mathlib.Omega.{arith}
use lib.ListN.{length-take}
use Rattle.quote_cases.proofs.show_lent.Goals as goal

pub slice_bounds-convert-end-2 : goal.slice_bounds-convert-end-2
slice_bounds-convert-end-2 c = simp length-take (omega arith)
