-- Why a table of bands is not accepted, as the verdict on it.
-- Assumes nothing.
use Rattle.std.specs.Prelude.{Result, Ok, Err}
use Rattle.arithmetic.specs.Refusals.{number_of}
use Rattle.bands.specs.Bands.{verdict_of}
use Rattle.bands.specs.declared.Fault.{Fault}
use Rattle.bands.specs.declared.Fault.TheVariants.{Refused, BadBand, NoBand, SeveralBands}
use Rattle.bands.specs.declared.Verdict.{Verdict}

abbrev pub fault_verdict : Fault → Verdict
fault_verdict (Refused refusal) = verdict_of (number_of refusal) 0 0 0
fault_verdict (BadBand place) = verdict_of 16 0 0 place
fault_verdict (NoBand row price) = verdict_of 17 row price 0
fault_verdict (SeveralBands row price) = verdict_of 18 row price 0

-- what may have a fault: zeros where it has none
abbrev pub result_verdict : {A : Type 0} → Result A Fault → Verdict
result_verdict (Ok value) = verdict_of 0 0 0 0
result_verdict (Err fault) = fault_verdict fault
