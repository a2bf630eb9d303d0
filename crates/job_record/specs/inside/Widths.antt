-- The limits by which no place of a job wraps.
-- Assumes nothing.
use Rattle.std.specs.Prelude.{ℕ}
use Rattle.job_record.specs.Form.{most_bytes, most_job_steps, after_fields}

-- a number of so many bytes fits 64 bits
abbrev pub most_width : ℕ
most_width = 8

-- no field is looked for beyond this place
abbrev pub farthest : ℕ
farthest = after_fields most_bytes most_width most_job_steps
