use Rattle.std.proofs.Common.{arith, refl}
use Rattle.arithmetic.proofs.CauseLaws as laws
use Rattle.arithmetic.proofs.RefusalLaws.{refusal-some}
use Rattle.arithmetic.proofs.lowest_refusal.Goals as goal

pub returns-in-Ok : goal.returns-in-Ok
returns-in-Ok g c = rw (c.in_default.is, c.in-Ok.is) (laws.lowest-first 0 0 refl)

pub returns-in-Err-b : goal.returns-in-Err-b
returns-in-Err-b g c = rw (c.in_default.is, c.in-Err-b.is) (laws.lowest-first 0 _ refl)

pub returns-in_default-b : goal.returns-in_default-b
returns-in_default-b g c = rw (c.in-Err.is, c.in_default-b.is) (laws.lowest-second _ 0 (refusal-some c.in-Err.first) refl)

pub returns-then-number : goal.returns-then-number
returns-then-number g c =
    rw (c.in-Err.is, c.in-Err-b-2.is)
    (laws.lowest-less _ _ (refusal-some c.in-Err.first) (refusal-some c.in-Err-b-2.second) (omega arith))

pub returns-else-number : goal.returns-else-number
returns-else-number g c =
    rw (c.in-Err.is, c.in-Err-b-2.is)
    (laws.lowest-more _ _ (refusal-some c.in-Err.first) (refusal-some c.in-Err-b-2.second) (omega arith))
