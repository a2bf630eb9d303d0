-- Which number a job has (document 01, When the engine declines), from its record, from its bytes and as a sheet: 1; then the fit's, 2 to 9; then the
-- option's where there is one, else the bond's, 10 to 13.
-- Assumes nothing.
use Rattle.std.specs.Prelude.{◌≡◌, Bool, not, cond, ◌&&◌, ◌||◌, List, [], ◌∷◌, ℕ, eqb, leb, ltb}
use Rattle.arithmetic.specs.Answers.{lowest_cause, first_cause}
use Rattle.limits.specs.Limits.{most_discounts, most_state_prices}
use Rattle.fitted_laws.specs.Entry.{version_number}
use Rattle.job_record.specs.declared.OptionRecord.{OptionRecord}
use Rattle.job_record.specs.declared.Job.{Job}
use Rattle.job_record.specs.Form.{well_formed}
use Rattle.job_record.specs.Reader.{job_of}
use Rattle.job_laws.specs.RecordFit.{meant_version, job_rows, job_kinds, job_figures}
use Rattle.job_laws.specs.JobPrices.{has_option, job_bond, job_option, record_prices, bytes_prices}
use Rattle.sheet_room.specs.Room.{sheet_room}
use Rattle.sheet_laws.specs.WholeJob.{sheet_number}
use Rattle.promises.specs.Causes.{cause, first_of}

-- no job's bytes give another tag than 0, 8 or 10, or more than 4,672 dates
abbrev pub option_formed : OptionRecord → Bool
option_formed option = leb option.count 4672 && (eqb option.tag 0 || (eqb option.tag 8 || eqb option.tag 10))

pub record JobCauses : Type 0 where
  -- of a record, in lent memories of so many numbers; 1: more than 255 steps, or an option that no bytes give. No version means version 1; one that no
  -- bytes give has 7, as the fit says.
  pub records : (job : Job) (discounts prices : ℕ) →
      (record_prices job discounts prices).number
      ≡ first_cause (first_of (cause 1 (ltb 255 job.steps) ∷ cause 1 (not (option_formed job.option)) ∷ []))
      (first_cause
      (version_number (meant_version job.version) job.frequency job.steps job.reversion job.volatility
      (job_rows job) (job_kinds job) (job_figures job) discounts prices)
      (cond (has_option job.option) (job_option job).number (job_bond job).number))
  -- of a job's bytes; 1: malformed, or over 4,700 bytes
  pub jobs : (bytes : List ℕ) (discounts prices : ℕ) →
      (bytes_prices bytes discounts prices).number
      ≡ first_cause (first_of (cause 1 (not (well_formed bytes)) ∷ [])) (record_prices (job_of bytes) discounts prices).number
  -- of a sheet, in a lent room of so many bytes: 6 where that is too short, among the causes of the job in memories of its own
  pub sheets : (bytes : List ℕ) (room : ℕ) →
      sheet_number bytes room
      ≡ first_cause (first_of (cause 1 (not (well_formed bytes)) ∷ []))
      (lowest_cause (record_prices (job_of bytes) most_discounts most_state_prices).number (first_of (cause 6 (ltb room sheet_room) ∷ [])))
