-- Whether a record is the record of some job, as a test: each number fits its field, the version is one or none, each quote has a kind, the
-- option's numbers belong to its tag, and zeros stand wherever the form says nothing.
-- Assumes nothing.
use Rattle.std.specs.Prelude.{ℕ, ◌-◌, ◌^◌, List, Bool, cond, ◌&&◌, ◌||◌, length, take, drop, leb, eqb}
use Rattle.arithmetic.specs.Row.{values, each, between}
use Rattle.reversion.specs.Reversion.{is_version}
use Rattle.job_record.specs.Form.{most_job_steps, most_dates, is_kind}
use Rattle.job_record.specs.declared.OptionRecord.{OptionRecord}
use Rattle.job_record.specs.declared.Job.{Job}

-- the greatest number in so many bytes
abbrev pub most_in : ℕ → ℕ
most_in width = 256 ^ width - 1

-- each number of a list is at most a limit
abbrev pub all_at_most : ℕ → List ℕ → Bool
all_at_most most l = each (length l) (between 0 most (values l))

-- a column of so many places: n entries that are at most a limit, zeros after them
unfoldable pub is_column : ℕ → List ℕ → ℕ → ℕ → Bool
is_column places l n most = eqb (length l) places && (all_at_most most (take n l) && all_at_most 0 (drop n l))

-- each of the first n numbers is a kind of quote
unfoldable pub are_kinds : List ℕ → ℕ → Bool
are_kinds kinds n = each n (λ k. is_kind (values kinds k))

-- a version, or 0 for none
abbrev pub version_fits : ℕ → Bool
version_fits v = eqb v 0 || is_version v

-- f in 1 byte, n in 1, b in 2, s in 4; and the version
unfoldable pub head_fits : ℕ → ℕ → ℕ → ℕ → ℕ → Bool
head_fits f n b s v = (leb f (most_in 1) && (leb n (most_in 1) && (leb b (most_in 2) && leb s (most_in 4)))) && version_fits v

-- kind in 1 byte, expiry in 1, strike in 4, and as many dates as a record has places for
unfoldable pub option_fits : ℕ → ℕ → ℕ → ℕ → Bool
option_fits kind expiry strike count = leb kind (most_in 1) && (leb expiry (most_in 1) && (leb strike (most_in 4) && leb count most_dates))

-- nothing is said of an option that is not there
unfoldable pub is_absent : ℕ → ℕ → ℕ → ℕ → ℕ → Bool
is_absent tag kind expiry strike count = eqb tag 0 && (eqb kind 0 && (eqb expiry 0 && (eqb strike 0 && eqb count 0)))

-- 08 lists no dates, 0A has no expiry, and with any other tag there is no option
unfoldable pub option_belongs : ℕ → ℕ → ℕ → ℕ → ℕ → Bool
option_belongs tag kind expiry strike count =
    cond (eqb tag 8) (eqb count 0) (cond (eqb tag 10) (eqb expiry 0) (is_absent tag kind expiry strike count))

unfoldable pub is_sound_option : OptionRecord → Bool
is_sound_option option =
    option_fits option.kind option.expiry option.strike option.count
    && (option_belongs option.tag option.kind option.expiry option.strike option.count
    && is_column most_dates option.dates option.count (most_in 1))

-- the columns of n quotes and n flows
unfoldable pub are_columns : List ℕ → List ℕ → List ℕ → ℕ → Bool
are_columns kinds figures flows n =
    are_kinds kinds n
    && (is_column most_job_steps kinds n (most_in 1) && (is_column most_job_steps figures n (most_in 8) && is_column most_job_steps flows n (most_in 4)))

unfoldable pub is_sound : Job → Bool
is_sound job =
    head_fits job.frequency job.steps job.reversion job.volatility job.version
    && (are_columns job.kinds job.figures job.flows job.steps && is_sound_option job.option)
