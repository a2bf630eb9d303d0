-- The job that document 01 prints (Job and sheet), and the same with a list of dates or a version (document 02, named exercise dates, versions).
-- Assumes nothing.
use Rattle.std.specs.Prelude.{ℕ, ◌+◌, ◌-◌, List, [], ◌∷◌, ◌++◌, length, replicate}
use Rattle.job_record.specs.Form.{most_job_steps, most_dates, list_head}
use Rattle.job_record.specs.declared.OptionRecord.{OptionRecord}
use Rattle.job_record.specs.declared.Job.{Job}

-- 01000101 02000101 0300020000 04000400000000
abbrev pub example_head : List ℕ
example_head = 1 ∷ 0 ∷ 1 ∷ 1 ∷ 2 ∷ 0 ∷ 1 ∷ 1 ∷ 3 ∷ 0 ∷ 2 ∷ 0 ∷ 0 ∷ 4 ∷ 0 ∷ 4 ∷ 0 ∷ 0 ∷ 0 ∷ 0 ∷ []

-- 0500083FF00A3D70A3D70A, or the same with another tag
abbrev pub quote_of : ℕ → List ℕ
quote_of tag = tag ∷ 0 ∷ 8 ∷ 63 ∷ 240 ∷ 10 ∷ 61 ∷ 112 ∷ 163 ∷ 215 ∷ 10 ∷ []

abbrev pub example_quote : List ℕ
example_quote = quote_of 5

-- 0700043B9ACA00
abbrev pub example_flow : List ℕ
example_flow = 7 ∷ 0 ∷ 4 ∷ 59 ∷ 154 ∷ 202 ∷ 0 ∷ []

-- 08000604013C336080
abbrev pub example_option : List ℕ
example_option = 8 ∷ 0 ∷ 6 ∷ 4 ∷ 1 ∷ 60 ∷ 51 ∷ 96 ∷ 128 ∷ []

-- 0A, the length of side, strike and dates, 023C336080, the dates
abbrev pub list_of : List ℕ → List ℕ
list_of dates = 10 ∷ 0 ∷ (list_head + length dates) ∷ 2 ∷ 60 ∷ 51 ∷ 96 ∷ 128 ∷ dates

abbrev pub job_with : List ℕ → List ℕ → List ℕ
job_with quote option = example_head ++ (quote ++ (example_flow ++ option))

-- 0B0001 and the version
abbrev pub field_of : ℕ → List ℕ
field_of version = 11 ∷ 0 ∷ 1 ∷ version ∷ []

abbrev pub example : List ℕ
example = job_with example_quote example_option

-- an American put at 1.01, to row 1
abbrev pub example_put : OptionRecord
example_put = record { tag = 8; kind = 4; expiry = 1; strike = 1010000000; count = 0; dates = replicate most_dates 0 }

-- a put at 1.01 on listed rows
abbrev pub listed_put : List ℕ → OptionRecord
listed_put dates =
    record { tag = 10; kind = 2; expiry = 0; strike = 1010000000; count = length dates; dates = dates ++ replicate (most_dates - length dates) 0 }

-- yearly steps, one of them, no reversion, no volatility; the float of 1.0025 under a tag; one; an option
abbrev pub record_with : ℕ → OptionRecord → Job
record_with tag option =
    record {
      frequency = 1;
      steps = 1;
      reversion = 0;
      volatility = 0;
      version = 0;
      kinds = tag ∷ replicate (most_job_steps - 1) 0;
      figures = 4607193677799085834 ∷ replicate (most_job_steps - 1) 0;
      flows = 1000000000 ∷ replicate (most_job_steps - 1) 0;
      option = option;
    }

abbrev pub example_job : Job
example_job = record_with 5 example_put

-- the same job of a version
abbrev pub version_with_option : ℕ → OptionRecord → Job
version_with_option version option =
    record {
      frequency = 1;
      steps = 1;
      reversion = 0;
      volatility = 0;
      version = version;
      kinds = example_job.kinds;
      figures = example_job.figures;
      flows = example_job.flows;
      option = option;
    }

abbrev pub version_job : ℕ → Job
version_job version = version_with_option version example_put
