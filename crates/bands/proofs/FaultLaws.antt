-- Laws of faults by the numbers of their verdicts.
-- Assumes nothing.
use mathlib.Core.Path.{◌≡◌}
use native.Mathlib.Omega.{arith}
use Rattle.arithmetic.proofs.RefusalLaws.{refusal-some}
use Rattle.bands.specs.Faults.{fault_verdict}
use Rattle.bands.specs.declared.Fault.{Fault}
use Rattle.bands.specs.declared.Fault.TheVariants.{Refused, BadBand, NoBand, SeveralBands}

-- no fault has the number of none
pub fault-some : (f : Fault) → (fault_verdict f).number ≡ 0 → ⊥
fault-some (Refused refusal) e = refusal-some refusal e
fault-some (BadBand place) e = omega arith
fault-some (NoBand row price) e = omega arith
fault-some (SeveralBands row price) e = omega arith
