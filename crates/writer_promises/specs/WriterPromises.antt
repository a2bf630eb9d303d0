-- What writing a job promises (document 02, request (xii)), for every record, every job and every memory. The tags and lengths of the form stand here anew.
-- Assumes nothing.
use Rattle.std.specs.Prelude.{◌≡◌, List, [], ◌∷◌, ◌++◌, ◌⊎◌, ℕ, zero, suc, ◌+◌, ◌/◌, ◌%◌, ◌≤◌, ◌<◌, length, take, drop}
use Rattle.arithmetic.specs.Row.{values}
use Rattle.arithmetic.specs.Answers.{refused, answered}
use Rattle.job_record.specs.Bytes.{Bytes}
use Rattle.job_record.specs.Reader.{reading_of, accepted_reading}
use Rattle.job_record.specs.declared.OptionRecord.{OptionRecord}
use Rattle.job_record.specs.declared.Job.{Job}
use Rattle.writer_laws.specs.Writer.{written, written_memory}

-- a number in one, two, four and eight bytes, the high byte first
abbrev pub one : ℕ → List ℕ
one v = v % 256 ∷ []

abbrev pub two : ℕ → List ℕ
two v = v / 256 % 256 ∷ one v

abbrev pub four : ℕ → List ℕ
four v = v / 256 / 256 / 256 % 256 ∷ v / 256 / 256 % 256 ∷ two v

abbrev pub eight : ℕ → List ℕ
eight v =
    v / 256 / 256 / 256 / 256 / 256 / 256 / 256 % 256 ∷ v / 256 / 256 / 256 / 256 / 256 / 256 % 256
    ∷ v / 256 / 256 / 256 / 256 / 256 % 256 ∷ v / 256 / 256 / 256 / 256 % 256 ∷ four v

-- the quotes of rows 1 to n, each its kind, 0, 8 and the bits of its figure
unfoldable pub quotes : Job → ℕ → List ℕ
quotes job zero = []
quotes job (suc n) = quotes job n ++ (values job.kinds n ∷ 0 ∷ 8 ∷ eight (values job.figures n))

-- the flows of rows 1 to n
unfoldable pub flows : Job → ℕ → List ℕ
flows job zero = []
flows job (suc n) = flows job n ++ (7 ∷ 0 ∷ 4 ∷ four (values job.flows n))

-- the listed rows of an option 0A
abbrev pub rows : OptionRecord → List ℕ
rows option = take option.count option.dates

-- 01 f, 02 n, 03 b, 04 s
abbrev pub head : Job → List ℕ
head job =
    (1 ∷ 0 ∷ 1 ∷ one job.frequency) ++ ((2 ∷ 0 ∷ 1 ∷ one job.steps) ++ ((3 ∷ 0 ∷ 2 ∷ two job.reversion) ++ (4 ∷ 0 ∷ 4 ∷ four job.volatility)))

-- a job's bytes: the head, then the version, n quotes, n flows and the option
abbrev pub form : Job → List ℕ → List ℕ → List ℕ
form job version option = head job ++ (version ++ (quotes job job.steps ++ (flows job job.steps ++ option)))

-- no version where the record has none, else 0B
pub data Version (job : Job) (part : List ℕ) : Type 0 where
  by-absence : job.version ≡ 0 → part ≡ [] → Version job part
  by-tag : (job.version ≡ 0 → ⊥) → part ≡ 11 ∷ 0 ∷ 1 ∷ one job.version → Version job part

-- no option, one of a kind (08), or one on listed rows (0A)
pub data Option (option : OptionRecord) (part : List ℕ) : Type 0 where
  none : option.tag ≡ 0 → part ≡ [] → Option option part
  of-kind : option.tag ≡ 8 → part ≡ 8 ∷ 0 ∷ 6 ∷ (one option.kind ++ (one option.expiry ++ four option.strike)) → Option option part
  on-rows : option.tag ≡ 10 →
      part ≡ 10 ∷ (two (5 + length (rows option)) ++ (one option.kind ++ (four option.strike ++ rows option))) → Option option part

pub record WriterPromises : Type 0 where
  -- what is written is the record in the one form that the reader takes, at the front of the memory; what stood behind it stays
  pub form-written : (job : Job) (out : List ℕ) → (written job (length out)).number ≡ 0 →
      (version option : List ℕ) → Version job version → Option job.option option →
      written_memory job out ≡ form job version option ++ drop (written job (length out)).value out
  pub counted : (job : Job) (out : List ℕ) → (written job (length out)).number ≡ 0 →
      (version option : List ℕ) → Version job version → Option job.option option → (written job (length out)).value ≡ length (form job version option)
  -- every well-formed job, written after reading, returns its own bytes
  pub returns-bytes : (bytes out : List ℕ) → Bytes bytes → (reading_of bytes).number ≡ 0 → length bytes ≤ length out →
      (written (reading_of bytes).job (length out) ≡ answered (length bytes))
      × (written_memory (reading_of bytes).job out ≡ bytes ++ drop (length bytes) out)
  -- every record that is written, and then read, is the same record
  pub same-record : (job : Job) (out : List ℕ) → (written job (length out)).number ≡ 0 →
      reading_of (take (written job (length out)).value (written_memory job out)) ≡ accepted_reading job
  -- 1 exactly where no job is read as the record
  pub none_read : (job : Job) (room : ℕ) → (written job room).number ≡ 1 → (bytes : List ℕ) → Bytes bytes → reading_of bytes ≡ accepted_reading job → ⊥
  pub none-refused : (job : Job) (room : ℕ) → ((bytes : List ℕ) → Bytes bytes → reading_of bytes ≡ accepted_reading job → ⊥) →
      written job room ≡ refused 1
  -- else 6 where the memory is shorter than the job that is read as the record
  pub short-refused : (bytes : List ℕ) (room : ℕ) → Bytes bytes → (reading_of bytes).number ≡ 0 → room < length bytes →
      written (reading_of bytes).job room ≡ refused 6
  pub numbers : (job : Job) (room : ℕ) → ((written job room).number ≡ 0) ⊎ ((written job room ≡ refused 1) ⊎ (written job room ≡ refused 6))
  -- a refusal leaves the memory as it was
  pub untouched : (job : Job) (out : List ℕ) → ((written job (length out)).number ≡ 0 → ⊥) → written_memory job out ≡ out
  -- different jobs are different records: a version by tag and by absence, an option from 08 and from 0A
  pub distinct : (bytes other : List ℕ) → Bytes bytes → Bytes other → (reading_of bytes).number ≡ 0 → reading_of other ≡ reading_of bytes → other ≡ bytes
  -- and no job has more than 4,700 bytes
  pub at_most : (job : Job) (out : List ℕ) → (written job (length out)).number ≡ 0 → (written job (length out)).value ≤ 4700
