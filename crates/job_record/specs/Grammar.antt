-- The grammar of a job (document 01, Job and sheet; document 02, named exercise dates and versions): the bytes of a record, field after field, and
-- what reading has to do with them.
-- Assumes nothing.
use Rattle.std.specs.Prelude.{ℕ, zero, suc, ◌^◌, ◌≤◌, ◌<◌, List, [], ◌∷◌, ◌++◌, true, cond, ◌||◌, ◌≡◌, length, take, eqb}
use Rattle.arithmetic.specs.Row.{values}
use Rattle.reversion.specs.Reversion.{is_version}
use Rattle.job_record.specs.Bytes.{number_bytes}
use Rattle.job_record.specs.Form.{most_bytes, most_job_steps, most_dates, is_kind}
use Rattle.job_record.specs.Reader.{no_option, accepted_reading, malformed}
use Rattle.job_record.specs.declared.OptionRecord.{OptionRecord}
use Rattle.job_record.specs.declared.Job.{Job}
use Rattle.job_record.specs.declared.Reading.{Reading}

-- job field: one-byte tag, two-byte length, data
unfoldable pub field : ℕ → List ℕ → List ℕ
field tag content = tag ∷ (number_bytes 2 (length content) ++ content)

-- part 0, .., part (n - 1), one after the other
unfoldable pub joined : ℕ → (ℕ → List ℕ) → List ℕ
joined zero part = []
joined (suc n) part = joined n part ++ part n

-- a quote: 05, 06 or 09, 8 bytes of float
abbrev pub quote_field : Job → ℕ → List ℕ
quote_field job i = field (values job.kinds i) (number_bytes 8 (values job.figures i))

-- a flow: 07, 4
abbrev pub flow_field : Job → ℕ → List ℕ
flow_field job i = field 7 (number_bytes 4 (values job.flows i))

-- kind 1, expiry 1, strike 4
abbrev pub kind_data : OptionRecord → List ℕ
kind_data option = number_bytes 1 option.kind ++ (number_bytes 1 option.expiry ++ number_bytes 4 option.strike)

-- side 1, strike 4, the listed dates
abbrev pub list_data : OptionRecord → List ℕ
list_data option = number_bytes 1 option.kind ++ (number_bytes 4 option.strike ++ take option.count option.dates)

-- an option: 08 or 0A
unfoldable pub option_field : OptionRecord → List ℕ
option_field option =
    cond (eqb option.tag 8) (field 8 (kind_data option)) (cond (eqb option.tag 10) (field 10 (list_data option)) [])

-- a version: 0B, 1; 0 stands for none
unfoldable pub version_field : ℕ → List ℕ
version_field version = cond (eqb version 0) [] (field 11 (number_bytes 1 version))

-- in this order: f, n, b, s; at most one version; n quotes; n flows; at most one option
unfoldable pub encode : Job → List ℕ
encode job =
    field 1 (number_bytes 1 job.frequency)
    ++ (field 2 (number_bytes 1 job.steps)
    ++ (field 3 (number_bytes 2 job.reversion)
    ++ (field 4 (number_bytes 4 job.volatility)
    ++ (version_field job.version
    ++ (joined job.steps (quote_field job) ++ (joined job.steps (flow_field job) ++ option_field job.option))))))

-- a column of so many places of a record holds its n entries, each below a bound, and zeros after them
pub record Column (places : ℕ) (l : List ℕ) (n bound : ℕ) : Type 0 where
  pub size : length l ≡ places
  pub below : (k : ℕ) → values l k < bound
  pub after : (k : ℕ) → n ≤ k → values l k ≡ 0

-- each number of the option fits its place, a kind lists no dates, a list has no expiry, and zeros stand for no option
pub record SoundOption (option : OptionRecord) : Type 0 where
  pub kind : option.kind < 256 ^ 1
  pub expiry : option.expiry < 256 ^ 1
  pub strike : option.strike < 256 ^ 4
  pub few : option.count ≤ most_dates
  pub dates : Column most_dates option.dates option.count 256
  pub no-list : option.tag ≡ 8 → option.count ≡ 0
  pub no-expiry : option.tag ≡ 10 → option.expiry ≡ 0
  pub absent : (option.tag ≡ 8 → ⊥) → (option.tag ≡ 10 → ⊥) → option ≡ no_option

-- what every job's record meets: each number fits its field, each quote has a kind, nothing stands where the job says nothing
pub record SoundJob (job : Job) : Type 0 where
  pub frequency : job.frequency < 256 ^ 1
  pub steps : job.steps < 256 ^ 1
  pub reversion : job.reversion < 256 ^ 2
  pub volatility : job.volatility < 256 ^ 4
  pub version : (eqb job.version 0 || is_version job.version) ≡ true
  pub kinds : Column most_job_steps job.kinds job.steps 256
  pub kind : (k : ℕ) → k < job.steps → is_kind (values job.kinds k) ≡ true
  pub figures : Column most_job_steps job.figures job.steps (256 ^ 8)
  pub flows : Column most_job_steps job.flows job.steps (256 ^ 4)
  pub option : SoundOption job.option

-- the bytes are those of the record
pub record Encodes (s : List ℕ) (job : Job) : Type 0 where
  pub sound : SoundJob job
  pub fields : encode job ≡ s
  pub short : length s ≤ most_bytes

-- reading by the grammar: the bytes of a record give that record, what is accepted is the bytes of the record given,
-- and everything else is refused with 1. The record is a sound one either way: zeros are
pub record ReadsAs (s : List ℕ) (r : Reading) : Type 0 where
  pub reads : (job : Job) → Encodes s job → r ≡ accepted_reading job
  pub only : r.number ≡ 0 → Encodes s r.job
  pub refuses : (r.number ≡ 0 → ⊥) → r ≡ malformed
  pub sound : SoundJob r.job
