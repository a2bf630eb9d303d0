-- What reading gives, each field from its place.
-- Assumes nothing.
use Rattle.std.specs.Prelude.{ℕ, ◌+◌, List, cond, length, get_or, replicate, eqb}
use Rattle.arithmetic.specs.Row.{padded}
use Rattle.job_record.specs.Bytes.{number_at}
use Rattle.job_record.specs.Form.{most_job_steps, most_dates, data_at, after_fields, frequency_at, reversion_at, volatility_at, version_at, quotes_at}
use Rattle.job_record.specs.Form.{flows_at, rest_at, kind_at, expiry_at, strike_at, side_at, list_strike_at, dates_at, dates_left, steps_of}
use Rattle.job_record.specs.Form.{has_version, well_formed}
use Rattle.job_record.specs.declared.OptionRecord.{OptionRecord}
use Rattle.job_record.specs.declared.Job.{Job}
use Rattle.job_record.specs.declared.Reading.{Reading}

-- of the fields of one width from a place on: tag and data of the i-th
abbrev pub tag_of : List ℕ → ℕ → ℕ → ℕ → ℕ
tag_of s from width i = get_or s (after_fields from width i) 0

abbrev pub data_of : List ℕ → ℕ → ℕ → ℕ → ℕ
data_of s from width i = number_at s (data_at (after_fields from width i)) width

-- of the dates from a place on: the i-th
abbrev pub date_of : List ℕ → ℕ → ℕ → ℕ
date_of s from i = get_or s (from + i) 0

-- no option: zeros
abbrev pub no_option : OptionRecord
no_option = record { tag = 0; kind = 0; expiry = 0; strike = 0; count = 0; dates = replicate most_dates 0 }

-- the option 08 at a place
unfoldable pub kind_option_at : List ℕ → ℕ → OptionRecord
kind_option_at s at =
    record {
      tag = 8;
      kind = number_at s (kind_at at) 1;
      expiry = number_at s (expiry_at at) 1;
      strike = number_at s (strike_at at) 4;
      count = 0;
      dates = replicate most_dates 0;
    }

-- the option 0A at a place: a side, a strike and the dates that it lists
unfoldable pub list_option_at : List ℕ → ℕ → OptionRecord
list_option_at s at =
    record {
      tag = 10;
      kind = number_at s (side_at at) 1;
      expiry = 0;
      strike = number_at s (list_strike_at at) 4;
      count = dates_left s at;
      dates = padded most_dates (dates_left s at) (date_of s (dates_at at));
    }

-- the option whose field stands at a place, if the bytes do not end there
unfoldable pub option_at : List ℕ → ℕ → OptionRecord
option_at s at = cond (eqb (length s) at) no_option (cond (eqb (get_or s at 0) 8) (kind_option_at s at) (list_option_at s at))

-- the version, 0 where there is none
unfoldable pub version_of : List ℕ → ℕ
version_of s = cond (has_version s) (number_at s (data_at version_at) 1) 0

unfoldable pub job_of : List ℕ → Job
job_of s =
    record {
      frequency = number_at s (data_at frequency_at) 1;
      steps = steps_of s;
      reversion = number_at s (data_at reversion_at) 2;
      volatility = number_at s (data_at volatility_at) 4;
      version = version_of s;
      kinds = padded most_job_steps (steps_of s) (tag_of s (quotes_at s) 8);
      figures = padded most_job_steps (steps_of s) (data_of s (quotes_at s) 8);
      flows = padded most_job_steps (steps_of s) (data_of s (flows_at (quotes_at s) (steps_of s)) 4);
      option = option_at s (rest_at (quotes_at s) (steps_of s));
    }

-- zeros
unfoldable pub no_job : Job
no_job =
    record {
      frequency = 0;
      steps = 0;
      reversion = 0;
      volatility = 0;
      version = 0;
      kinds = replicate most_job_steps 0;
      figures = replicate most_job_steps 0;
      flows = replicate most_job_steps 0;
      option = no_option;
    }

-- number 0 with a job
abbrev pub accepted_reading : Job → Reading
accepted_reading job = record { number = 0; job = job }

-- cause 1, with zeros
abbrev pub malformed : Reading
malformed = record { number = 1; job = no_job }

unfoldable pub reading_of : List ℕ → Reading
reading_of s = cond (well_formed s) (accepted_reading (job_of s)) malformed
