use mathlib.Core.Path.{refl}
use lib.ListN.{length-replicate}
use Prim.Native.Nat.{ℕ}
use Rattle.sheet_room.proofs.sheet_room.Goals as goal

pub returns : goal.returns
returns c = record { zeros = refl; size = length-replicate {A = ℕ} 468736 0 }
