-- The job that document 01 prints, read, the same with a list of dates or a version, and lists of bytes that are no job.
-- Assumes nothing.
use Prim.Native.Nat.{ℕ, ◌<◌}
use native.Mathlib.Omega.{arith}
use mathlib.Core.List.{List, [], ◌∷◌, ◌++◌}
use mathlib.Core.Path.{◌≡◌, refl, sym, ap}
use lib.ListN.{length}
use Rattle.arithmetic.specs.Row.{row, overlay, each, padded}
use Rattle.reversion.specs.Reversion.{is_version}
use Rattle.job_record.specs.Bytes.{number_bytes, number_at}
use Rattle.job_record.specs.Form.{most_bytes, most_dates, is_kind, field_at, fields_from}
use Rattle.job_record.specs.Form.{head_formed, has_version, quotes_at, kind_formed, list_formed, rest_formed, body_formed, well_formed}
use Rattle.job_record.specs.Reader.{date_of, kind_option_at, list_option_at, option_at, version_of, job_of, accepted_reading, malformed, reading_of}
use Rattle.job_record.specs.Grammar.{field, joined, option_field, version_field, encode}
use Rattle.job_record.specs.Example.{
  example_head,
  example_quote,
  example_flow,
  example_option,
  example,
  example_put,
  list_of,
  listed_put,
  example_job,
  quote_of,
  job_with,
  record_with,
  field_of,
  version_with_option,
  version_job,
}
use Rattle.job_record.specs.declared.OptionRecord.{OptionRecord}
use Rattle.job_record.specs.declared.Reading.{Reading}
use Rattle.job_record.proofs.Columns.{padded-split}
use Rattle.job_record.proofs.Forms.{refuse-long}
use Rattle.job_record.proofs.ReadLaws.{reading-bad}

-- number 0 with the example's record, but for the quote's tag and the option
abbrev accepted_with : ℕ → OptionRecord → Reading
accepted_with tag option = accepted_reading (record_with tag option)

-- the option 08, whatever kind the quote has
put-read : (tag : ℕ) → option_at (job_with (quote_of tag) example_option) 38 ≡ example_put
unfolding number_at kind_option_at option_at
put-read tag = refl

pub example-read : reading_of example ≡ accepted_reading example_job
unfolding number_at is_kind field_at fields_from head_formed has_version quotes_at kind_formed list_formed rest_formed body_formed well_formed
    padded version_of job_of reading_of row overlay each
example-read = ap (accepted_with 5) (put-read 5)

pub example-written : encode example_job ≡ example
unfolding field joined option_field version_field encode number_bytes
example-written = refl

-- a rate or a yield in the quote's place, and a tag that is no kind
pub rate-read : reading_of (job_with (quote_of 6) example_option) ≡ accepted_with 6 example_put
unfolding number_at is_kind field_at fields_from head_formed has_version quotes_at kind_formed list_formed rest_formed body_formed well_formed
    padded version_of job_of reading_of row overlay each
rate-read = ap (accepted_with 6) (put-read 6)

pub yield-read : reading_of (job_with (quote_of 9) example_option) ≡ accepted_with 9 example_put
unfolding number_at is_kind field_at fields_from head_formed has_version quotes_at kind_formed list_formed rest_formed body_formed well_formed
    padded version_of job_of reading_of row overlay each
yield-read = ap (accepted_with 9) (put-read 9)

pub other-refused : reading_of (job_with (quote_of 7) example_option) ≡ malformed
unfolding number_at is_kind field_at fields_from head_formed has_version quotes_at kind_formed list_formed rest_formed body_formed well_formed reading_of each
other-refused = refl

pub nothing_read : reading_of [] ≡ malformed
unfolding number_at is_kind field_at fields_from head_formed has_version quotes_at kind_formed list_formed rest_formed body_formed well_formed reading_of
nothing_read = refl

pub second-option : reading_of (example ++ example_option) ≡ malformed
unfolding number_at is_kind field_at fields_from head_formed has_version quotes_at kind_formed list_formed rest_formed body_formed well_formed reading_of each
second-option = refl

pub flow-first : reading_of (example_head ++ (example_flow ++ (example_quote ++ example_option))) ≡ malformed
unfolding number_at is_kind field_at fields_from head_formed has_version quotes_at kind_formed list_formed rest_formed body_formed well_formed reading_of each
flow-first = refl

-- a list of two dates, and an empty one. The places for dates are not worked out one by one
two-dates-option : option_at (job_with example_quote (list_of (2 ∷ 4 ∷ []))) 38 ≡ listed_put (2 ∷ 4 ∷ [])
unfolding number_at list_option_at option_at row
two-dates-option = rw (← padded-split most_dates 2 (date_of (job_with example_quote (list_of (2 ∷ 4 ∷ []))) 46) (omega arith))

no-dates-option : option_at (job_with example_quote (list_of [])) 38 ≡ listed_put []
unfolding number_at list_option_at option_at row
no-dates-option = rw (← padded-split most_dates 0 (date_of (job_with example_quote (list_of [])) 46) (omega arith))

pub two-dates-read : reading_of (job_with example_quote (list_of (2 ∷ 4 ∷ []))) ≡ accepted_with 5 (listed_put (2 ∷ 4 ∷ []))
unfolding number_at is_kind field_at fields_from head_formed has_version quotes_at kind_formed list_formed rest_formed body_formed well_formed
    padded version_of job_of reading_of row overlay each
two-dates-read = ap (accepted_with 5) two-dates-option

pub two-dates-written : encode (record_with 5 (listed_put (2 ∷ 4 ∷ []))) ≡ job_with example_quote (list_of (2 ∷ 4 ∷ []))
unfolding field joined option_field version_field encode number_bytes
two-dates-written = refl

pub no-dates-read : reading_of (job_with example_quote (list_of [])) ≡ accepted_with 5 (listed_put [])
unfolding number_at is_kind field_at fields_from head_formed has_version quotes_at kind_formed list_formed rest_formed body_formed well_formed
    padded version_of job_of reading_of row overlay each
no-dates-read = ap (accepted_with 5) no-dates-option

-- 0A0004023C3360: the strike is cut short
pub short-list-refused : reading_of (job_with example_quote (10 ∷ 0 ∷ 4 ∷ 2 ∷ 60 ∷ 51 ∷ 96 ∷ [])) ≡ malformed
unfolding number_at is_kind field_at fields_from head_formed has_version quotes_at kind_formed list_formed rest_formed body_formed well_formed reading_of each
short-list-refused = refl

-- 08 and 0A together, either first
pub list-after-kind : reading_of (example ++ list_of (2 ∷ 4 ∷ [])) ≡ malformed
unfolding number_at is_kind field_at fields_from head_formed has_version quotes_at kind_formed list_formed rest_formed body_formed well_formed reading_of each
list-after-kind = refl

pub kind-after-list : reading_of (job_with example_quote (list_of (2 ∷ 4 ∷ [])) ++ example_option) ≡ malformed
unfolding number_at is_kind field_at fields_from head_formed has_version quotes_at kind_formed list_formed rest_formed body_formed well_formed reading_of each
kind-after-list = refl

-- a version straight after 04, 1 apart from none; the quotes follow it
abbrev version_with : List ℕ → List ℕ
version_with version = example_head ++ (version ++ (example_quote ++ (example_flow ++ example_option)))

version-option : (version : ℕ) → option_at (version_with (field_of version)) 42 ≡ example_put
unfolding number_at kind_option_at option_at
version-option version = refl

pub first-version-read : reading_of (version_with (field_of 1)) ≡ accepted_reading (version_job 1)
unfolding number_at is_kind is_version field_at fields_from head_formed has_version quotes_at kind_formed list_formed rest_formed body_formed well_formed
    padded version_of job_of reading_of row overlay each
first-version-read = ap (λ option. accepted_reading (version_with_option 1 option)) (version-option 1)

pub second-version-read : reading_of (version_with (field_of 2)) ≡ accepted_reading (version_job 2)
unfolding number_at is_kind is_version field_at fields_from head_formed has_version quotes_at kind_formed list_formed rest_formed body_formed well_formed
    padded version_of job_of reading_of row overlay each
second-version-read = ap (λ option. accepted_reading (version_with_option 2 option)) (version-option 2)

pub second-version-written : encode (version_job 2) ≡ version_with (field_of 2)
unfolding field joined option_field version_field encode number_bytes
second-version-written = refl

-- no other version, none of another length, and no second one
pub version-zero-refused : reading_of (version_with (field_of 0)) ≡ malformed
unfolding number_at is_kind is_version field_at fields_from head_formed has_version quotes_at kind_formed list_formed rest_formed body_formed
    well_formed reading_of each
version-zero-refused = refl

pub version-three-refused : reading_of (version_with (field_of 3)) ≡ malformed
unfolding number_at is_kind is_version field_at fields_from head_formed has_version quotes_at kind_formed list_formed rest_formed body_formed
    well_formed reading_of each
version-three-refused = refl

pub empty-version-refused : reading_of (version_with (11 ∷ 0 ∷ 0 ∷ [])) ≡ malformed
unfolding number_at is_kind is_version field_at fields_from head_formed has_version quotes_at kind_formed list_formed rest_formed body_formed
    well_formed reading_of each
empty-version-refused = refl

pub two-versions-refused : reading_of (version_with (field_of 2 ++ field_of 2)) ≡ malformed
unfolding number_at is_kind is_version field_at fields_from head_formed has_version quotes_at kind_formed list_formed rest_formed body_formed
    well_formed reading_of each
two-versions-refused = refl

-- nor one in another place
pub late-version-refused : reading_of (example_head ++ (example_quote ++ (field_of 2 ++ (example_flow ++ example_option)))) ≡ malformed
unfolding number_at is_kind is_version field_at fields_from head_formed has_version quotes_at kind_formed list_formed rest_formed body_formed
    well_formed reading_of each
late-version-refused = refl

-- over 4,700 bytes
pub long-refused : (s : List ℕ) → most_bytes < length s → reading_of s ≡ malformed
long-refused s long = reading-bad s (sym (refuse-long s long))
