-- What a sheet without a refusal says: its bytes are a job's, its fit, its bond and its option are accepted, and so all that is promised of
-- these holds of what the sheet shows.
-- Assumes nothing.
use mathlib.Core.Path.{◌≡◌}
use mathlib.Core.Bool.{true}
use mathlib.Core.List.{List}
use Prim.Native.Nat.{ℕ, ◌≤◌}
use Rattle.arithmetic.proofs.CauseLaws.{lowest-none, first-none}
use Rattle.limits.specs.Limits.{most_discounts, most_state_prices}
use Rattle.fitted_laws.specs.Entry.{version_number}
use Rattle.job_record.specs.declared.Job.{Job}
use Rattle.job_record.specs.Reader.{reading_of}
use Rattle.job_laws.specs.RecordFit.{meant_version, job_reversion, job_rows, job_kinds, job_figures, job_flows, job_discounts}
use Rattle.job_laws.proofs.FitLaws.{fit_none}
use Rattle.job_laws.specs.JobPrices.{has_option, tagged_option, job_bond}
use Rattle.job_laws.proofs.Accepted.{record-accepted}
use Rattle.sheet_room.specs.Room.{sheet_room}
use Rattle.sheet_laws.specs.WholeJob.{job_number, sheet_number}
use Rattle.sheet_laws.proofs.SheetLaws.{room-known}

-- each part of a job whose sheet has no cause
pub record AcceptedJob (job : Job) (room : ℕ) : Type 0 where
  pub fit : version_number (meant_version job.version) job.frequency job.steps job.reversion job.volatility
      (job_rows job) (job_kinds job) (job_figures job) most_discounts most_state_prices ≡ 0
  pub room-enough : sheet_room ≤ room
  pub bond : (job_bond job).number ≡ 0
  pub option-priced : has_option job.option ≡ true →
      (tagged_option job.steps (job_reversion job) (job_discounts job) (job_flows job) job.option).number ≡ 0

pub sheet-accepted : (bytes : List ℕ) (room : ℕ) → sheet_number bytes room ≡ 0 → ((reading_of bytes).number ≡ 0) × (job_number (reading_of bytes).job room ≡ 0)
unfolding sheet_number
sheet-accepted bytes room z = first-none _ _ z

pub job-accepted : (job : Job) (room : ℕ) → job_number job room ≡ 0 → AcceptedJob job room
unfolding job_number
job-accepted job room z =
    let both = lowest-none _ _ z in
    let parts = record-accepted job most_discounts most_state_prices both.0 in
    record {
      fit = fit_none job most_discounts most_state_prices parts.fit;
      room-enough = room-known room both.1;
      bond = parts.bond;
      option-priced = parts.option-priced;
    }
