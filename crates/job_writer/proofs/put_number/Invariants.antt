use Rattle.std.proofs.Common.{◌≡◌, ◌≤◌, ◌-◌}
use Rattle.arithmetic.specs.Row.{place}
use Rattle.job_record.specs.Bytes.{number_bytes}
use Rattle.job_writer.proofs.put_number.Given as goal

-- placing what is left gives the whole
abbrev pub invariant-loop-place : goal.invariant-loop-place
invariant-loop-place l =
    (l.at ≤ l.place) × (place l.out l.at (number_bytes (l.place - l.at) l.rest) ≡ place l.initial.out l.at (number_bytes l.width l.value))
