use Rattle.std.proofs.Common.{◌≡◌}
use Rattle.job_record.specs.Bytes.{number_at}
use Rattle.job_reader.proofs.number.Given as goal

abbrev pub invariant-loop-byte : goal.invariant-loop-byte
invariant-loop-byte l = l.value ≡ number_at l.bytes l.at l.byte-index
