-- What writing a record answers, and what it leaves in the memory (document 02, writing jobs).
-- Assumes nothing.
use Rattle.std.specs.Prelude.{ℕ, List, Bool, cond, ◌&&◌, length, leb}
use Rattle.arithmetic.specs.Answers.{unless_refused, refused, answered}
use Rattle.arithmetic.specs.Row.{place}
use Rattle.arithmetic.specs.declared.Answer.{Answer}
use Rattle.job_record.specs.Form.{most_bytes}
use Rattle.job_record.specs.Grammar.{encode}
use Rattle.job_record.specs.declared.Job.{Job}
use Rattle.writer_laws.specs.Sound.{is_sound}

-- a record that is sound and whose bytes are not too many
unfoldable pub writable : Job → Bool
writable job = is_sound job && leb (length (encode job)) most_bytes

-- 1 for a record that is no job's, then 6 for a memory that is too short; else how many bytes are written
unfoldable pub written : Job → ℕ → Answer
written job room =
    cond (writable job) (cond (leb (length (encode job)) room) (answered (length (encode job))) (refused 6)) (refused 1)

-- the record's bytes at the front of the memory; with a refusal the memory as it was
unfoldable pub written_memory : Job → List ℕ → List ℕ
written_memory job out = unless_refused (written job (length out)).number (place out 0 (encode job)) out
