-- Laws of a part of a list, from a place on.
-- Assumes nothing.
use mathlib.Core.Path.{◌≡◌, ap}
use mathlib.Core.List.{List}
use Prim.Native.Nat.{ℕ, ◌+◌, ◌-◌, ◌≤◌, ◌<◌}
use native.Mathlib.Nat.{add-sub_cancel_left}
use native.Mathlib.Omega.{arith}
use lib.ListN.{length, take, drop, length-take, length-drop}
use lib.Seq.{get_or-take, get_or-drop}
use Rattle.arithmetic.specs.Row.{values}

-- the part of count places from place start on, as lending has it
pub part-is : (l : List ℕ) (start count : ℕ) → take (start + count - start) (drop start l) ≡ take count (drop start l)
part-is l start count = ap (λ (k : ℕ). take k (drop start l)) (add-sub_cancel_left start count)

pub part-value : (l : List ℕ) (start count k : ℕ) → k < count → values (take count (drop start l)) k ≡ values l (start + k)
part-value l start count k h = rw (get_or-take, get_or-drop)

pub part_length : (l : List ℕ) (start count : ℕ) → start + count ≤ length l → length (take count (drop start l)) ≡ count
part_length l start count h = simp (length-take, length-drop) (omega arith)
