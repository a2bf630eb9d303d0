use mathlib.Core.Path.{◌≡◌}
use Prim.Native.Nat.{◌≤◌, ◌+◌}
use lib.ListN.{length}
use Rattle.text_laws.specs.Decimal.{natural}
use Rattle.text_laws.specs.Put.{put_before}
use Rattle.text.proofs.put_natural.Given as goal

abbrev pub invariant-loop-rest : goal.invariant-loop-rest
invariant-loop-rest l =
    (l.start + length (natural l.number) ≡ l.end + length (natural l.rest)) × (l.start ≤ l.end) × (length l.out ≡ length l.initial.out)
    × (put_before l.out l.start (natural l.rest) ≡ put_before l.initial.out l.end (natural l.number))

abbrev pub decreases-loop-rest : goal.decreases-loop-rest
decreases-loop-rest l = l.rest
