use Prim.Native.Nat.{◌≤◌}
use native.Mathlib.Omega.{arith}
use mathlib.Core.Path.{sym}
use lib.ListN.{length, length-take}
use Rattle.writer_laws.proofs.RoundTrips.{answered-within}
use Rattle.job_copies.proofs.copy.Goals as goal
use Rattle.job_copies.proofs.copy.Goals.{Else-written-ne0}

-- what was written stands within the memory
within : (c : Else-written-ne0) → c.write-written.result.value ≤ length c.write-written.new.out
within c =
    answered-within _ c.args.room.now c.write-written.new.out _ c.write-written.ensures.answer c.if-written-ne0.false c.write-written.auto.out

pub slice_bounds-write_frame-end : goal.slice_bounds-write_frame-end
slice_bounds-write_frame-end c = within c

pub slice_bounds-write_frame-end-2 : goal.slice_bounds-write_frame-end-2
slice_bounds-write_frame-end-2 c = let room = within (goal.at.slice_bounds-write_frame-end-2 c).Else-written-ne0 in sym (simp length-take (omega arith))
