use lib.Seq.{length-take-le}
use lib.ListN.{length-append, length-take, length-drop}
use mathlib.Core.Path.{sym}
use native.Mathlib.Omega.{arith}
use Rattle.book.proofs.next_field.Goals as goal

pub slice_bounds-read_full-end-3 : goal.slice_bounds-read_full-end-3
slice_bounds-read_full-end-3 c = sym (length-take-le _ _ (omega (arith, c.in-Some.ensures.size_bound)))

pub slice_bounds-with_field_in-end-2 : goal.slice_bounds-with_field_in-end-2
slice_bounds-with_field_in-end-2 c = simp (length-take, length-append, length-drop) (omega arith)
