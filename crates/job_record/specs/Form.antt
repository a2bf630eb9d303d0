-- The form of a job by places (document 01, Job and sheet; document 02, named exercise dates and versions): each field stands where the one before it
-- ends.
-- Assumes nothing.
use Rattle.std.specs.Prelude.{ℕ, ◌+◌, ◌-◌, ◌*◌, List, Bool, cond, ◌&&◌, ◌||◌, length, get_or, leb, eqb}
use Rattle.arithmetic.specs.Row.{each}
use Rattle.reversion.specs.Reversion.{is_version}
use Rattle.job_record.specs.Bytes.{number_at}
use Rattle.job_record.specs.declared.Tags.{Tags}
use Rattle.job_record.specs.declared.Tags.TheVariants.{AnyKind, Only}

-- a job has at most so many bytes
abbrev pub most_bytes : ℕ
most_bytes = 4700

-- as many steps as one byte can say: the places of a record for quotes and for flows
abbrev pub most_job_steps : ℕ
most_job_steps = 255

-- as many dates as a job has room for: its 4,700 bytes less the head's 20, a field's 3, and 5 of side and strike
abbrev pub most_dates : ℕ
most_dates = 4672

-- one byte of tag and two of length
abbrev pub field_head : ℕ
field_head = 3

-- where a field's data begin
abbrev pub data_at : ℕ → ℕ
data_at at = at + field_head

-- the place after a field, and after count fields of one width
abbrev pub after_field : ℕ → ℕ → ℕ
after_field at width = data_at at + width

abbrev pub after_fields : ℕ → ℕ → ℕ → ℕ
after_fields from width count = from + (width + field_head) * count

-- the kinds of quotes: 5 a discount factor, 6 a simple yearly rate, 9 a yearly yield
unfoldable pub is_kind : ℕ → Bool
is_kind tag = eqb tag 5 || eqb tag 6 || eqb tag 9

-- a tag is among those asked for
abbrev pub has_tag : Tags → ℕ → Bool
has_tag AnyKind tag = is_kind tag
has_tag (Only wanted) tag = eqb tag wanted

-- a whole field stands at a place: its tag, its length and as many bytes of data
unfoldable pub field_at : List ℕ → ℕ → Tags → ℕ → Bool
field_at s at tags width =
    leb (after_field at width) (length s) && (has_tag tags (get_or s at 0) && eqb (number_at s (at + 1) 2) width)

-- count such fields, one after the other from a place on
unfoldable pub fields_from : List ℕ → ℕ → Tags → ℕ → ℕ → Bool
fields_from s from tags width count = each count (λ i. field_at s (after_fields from width i) tags width)

-- the places of f in 1 byte, n in 1, b in 2, s in 4, and of what follows these
abbrev pub frequency_at : ℕ
frequency_at = 0

abbrev pub steps_at : ℕ
steps_at = after_field frequency_at 1

abbrev pub reversion_at : ℕ
reversion_at = after_field steps_at 1

abbrev pub volatility_at : ℕ
volatility_at = after_field reversion_at 2

abbrev pub version_at : ℕ
version_at = after_field volatility_at 4

-- there a version may stand, 0B in 1 byte, 1 or 2; the quotes follow it, or take its place
unfoldable pub has_version : List ℕ → Bool
has_version s = field_at s version_at (Only 11) 1 && is_version (number_at s (data_at version_at) 1)

unfoldable pub quotes_at : List ℕ → ℕ
quotes_at s = cond (has_version s) (after_field version_at 1) version_at

-- n quotes of 8 bytes, n flows of 4, and what follows these
abbrev pub flows_at : ℕ → ℕ → ℕ
flows_at quotes n = after_fields quotes 8 n

abbrev pub rest_at : ℕ → ℕ → ℕ
rest_at quotes n = after_fields (flows_at quotes n) 4 n

-- in an option: kind in 1 byte, expiry in 1, strike in 4
abbrev pub kind_at : ℕ → ℕ
kind_at at = data_at at

abbrev pub expiry_at : ℕ → ℕ
expiry_at at = kind_at at + 1

abbrev pub strike_at : ℕ → ℕ
strike_at at = expiry_at at + 1

abbrev pub option_width : ℕ
option_width = 1 + 1 + 4

-- in a list of dates: side in 1 byte, strike in 4, then one byte a date
abbrev pub side_at : ℕ → ℕ
side_at at = data_at at

abbrev pub list_strike_at : ℕ → ℕ
list_strike_at at = side_at at + 1

abbrev pub dates_at : ℕ → ℕ
dates_at at = list_strike_at at + 4

abbrev pub list_head : ℕ
list_head = 1 + 4

-- how many bytes stand after the head of a field, and after the strike of a list of dates
abbrev pub bytes_left : List ℕ → ℕ → ℕ
bytes_left s at = length s - data_at at

abbrev pub dates_left : List ℕ → ℕ → ℕ
dates_left s at = length s - dates_at at

-- 01 f, 02 n, 03 b, 04 s
unfoldable pub head_formed : List ℕ → Bool
head_formed s =
    field_at s frequency_at (Only 1) 1
    && (field_at s steps_at (Only 2) 1 && (field_at s reversion_at (Only 3) 2 && field_at s volatility_at (Only 4) 4))

-- one option 08, and nothing after it
unfoldable pub kind_formed : List ℕ → ℕ → Bool
kind_formed s at = field_at s at (Only 8) option_width && eqb (length s) (after_field at option_width)

-- one list of dates 0A, with side and strike: its data are all the bytes that are left
unfoldable pub list_formed : List ℕ → ℕ → Bool
list_formed s at = leb (after_field at list_head) (length s) && field_at s at (Only 10) (bytes_left s at)

-- at most one option, 08 or 0A
unfoldable pub rest_formed : List ℕ → ℕ → Bool
rest_formed s at = eqb (length s) at || (kind_formed s at || list_formed s at)

-- from a place on: n quotes, n flows 07, at most one option
unfoldable pub body_formed : List ℕ → ℕ → ℕ → Bool
body_formed s quotes n =
    fields_from s quotes AnyKind 8 n && (fields_from s (flows_at quotes n) (Only 7) 4 n && rest_formed s (rest_at quotes n))

-- n
abbrev pub steps_of : List ℕ → ℕ
steps_of s = number_at s (data_at steps_at) 1

unfoldable pub well_formed : List ℕ → Bool
well_formed s = leb (length s) most_bytes && (head_formed s && body_formed s (quotes_at s) (steps_of s))
