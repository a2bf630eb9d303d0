-- The bytes of a record are accepted, and give that record.
-- Assumes nothing.
use Prim.Native.Nat.{ℕ, ◌+◌, ◌*◌, ◌^◌, ◌≤◌, ◌<◌}
use native.Mathlib.Nat.{add-zero}
use native.Mathlib.Omega.{arith}
use mathlib.Core.Bool.{true, false, or-true}
use mathlib.Core.List.{List, [], ◌++◌}
use mathlib.Core.Path.{◌≡◌, refl, sym, ap, ◌∙◌}
use borrow.Author.Tests.{le-leb, eq-eqb, ne_eqb}
use lib.ListN.{length, get_or, take, length-append}
use lib.Seq.{get_or-take, length-take-le}
use Rattle.arithmetic.proofs.Numbers.{by_equal}
use Rattle.arithmetic.specs.Row.{values, padded}
use Rattle.reversion.specs.Reversion.{is_version}
use Rattle.job_record.specs.Bytes.{number_at, number_bytes}
use Rattle.job_record.specs.Form.{
  most_bytes,
  most_job_steps,
  most_dates,
  data_at,
  after_field,
  after_fields,
  has_tag,
  field_at,
  fields_from,
  frequency_at,
  steps_at,
  reversion_at,
  volatility_at,
  version_at,
  has_version,
  quotes_at,
  flows_at,
  rest_at,
  kind_at,
  expiry_at,
  strike_at,
  side_at,
  list_strike_at,
  dates_at,
  option_width,
  list_head,
  bytes_left,
  dates_left,
  kind_formed,
  list_formed,
  head_formed,
  rest_formed,
  body_formed,
  steps_of,
  well_formed,
}
use Rattle.job_record.specs.Reader.{tag_of, data_of, date_of, kind_option_at, list_option_at, option_at, version_of, job_of}
use Rattle.job_record.specs.Grammar.{field, joined, quote_field, flow_field, kind_data, list_data, option_field, version_field, encode, Column, SoundOption}
use Rattle.job_record.specs.Grammar.{SoundJob}
use Rattle.job_record.specs.declared.Tags.{Tags}
use Rattle.job_record.specs.declared.Tags.TheVariants.{AnyKind, Only}
use Rattle.job_record.specs.declared.OptionRecord.{OptionRecord}
use Rattle.job_record.specs.declared.Job.{Job}
use Rattle.job_record.proofs.Answers.{both}
use Rattle.job_record.proofs.Forms.{each-fields, body-apart, quotes-after, quotes-there, version-absent, version-read, version-missing, version-small}
use Rattle.job_record.proofs.Options.{option-none, option-kind, option-list, field-kind, field-list, field-none}
use Rattle.job_record.proofs.Columns.{column-padded, column-zeros}
use Rattle.job_record.proofs.Places.{
  At,
  at_all,
  at_first,
  at_second,
  at_entry,
  at-number,
  at_body,
  at_tag,
  at_field,
  at_joined,
  digits-length,
  field-size,
  joined-size,
}

-- a field whose data are one number
module _ (s : List ℕ) (o tag k v : ℕ) (h : At s o (field tag (number_bytes k v))) where
  number-formed : (tags : Tags) → has_tag tags tag ≡ true → k < 65536 → field_at s o tags k ≡ true
  number-formed tags has small = rw (digits-length k v) at (at_field s o tag (number_bytes k v) h tags has (rw (digits-length k v) small))

  only-formed : k < 65536 → field_at s o (Only tag) k ≡ true
  only-formed = number-formed (Only tag) (eq-eqb tag tag refl)

  number_read : v < 256 ^ k → number_at s (data_at o) k ≡ v
  number_read fits = at-number s (data_at o) k v fits (at_body s o tag (number_bytes k v) h)

pub number_size : (tag k v : ℕ) → length (field tag (number_bytes k v)) ≡ k + 3
number_size tag k v = field-size tag (number_bytes k v) ∙ ap (λ (n : ℕ). n + 3) (digits-length k v)

-- n such fields of one width, one after the other
pub fields-size : (tag number : ℕ → ℕ) (width n : ℕ) → length (joined n (λ i. field (tag i) (number_bytes width (number i)))) ≡ (width + 3) * n
fields-size tag number width n =
    joined-size (λ i. field (tag i) (number_bytes width (number i))) (width + 3) n (λ i. number_size (tag i) width (number i))

module _ (s : List ℕ) (from : ℕ) (tag number : ℕ → ℕ) (width n : ℕ) (h : At s from (joined n (λ i. field (tag i) (number_bytes width (number i))))) where
  one_at : (i : ℕ) → i < n → At s (after_fields from width i) (field (tag i) (number_bytes width (number i)))
  one_at =
      at_joined s from (λ i. field (tag i) (number_bytes width (number i))) (width + 3) n (λ i. number_size (tag i) width (number i)) h

  fields-formed : (tags : Tags) → width < 65536 → ((i : ℕ) → i < n → has_tag tags (tag i) ≡ true) → fields_from s from tags width n ≡ true
  fields-formed tags small has =
      each-fields s from tags width n
      (λ i below. number-formed s (after_fields from width i) (tag i) width (number i) (one_at i below) tags (has i below) small)

  tags-read : (i : ℕ) → i < n → tag_of s from width i ≡ tag i
  tags-read i below = at_tag s (after_fields from width i) (tag i) (number_bytes width (number i)) (one_at i below)

  numbers-read : ((i : ℕ) → number i < 256 ^ width) → (i : ℕ) → i < n → data_of s from width i ≡ number i
  numbers-read fits i below = number_read s (after_fields from width i) (tag i) width (number i) (one_at i below) (fits i)

-- a field that ends the list: where it stands, and its length
module _ (s : List ℕ) (o tag : ℕ) (body : List ℕ) (h : At s o (field tag body)) (e : length s ≡ o + length (field tag body)) where
  ends : length s ≡ after_field o (length body)
  ends = omega (arith, e, field-size tag body)

  more : length s ≡ o → ⊥
  more same = omega (arith, ends)

  formed : length body < 65536 → field_at s o (Only tag) (length body) ≡ true
  formed = at_field s o tag body h (Only tag) (eq-eqb tag tag refl)

-- an option 08 that ends the list
module _ (s : List ℕ) (o : ℕ) (option : OptionRecord) (h : At s o (field 8 (kind_data option))) (e : length s ≡ o + length (field 8 (kind_data option))) where
  kind-width : length (kind_data option) ≡ option_width
  kind-width = simp (length-append, digits-length)

  kind-formed : rest_formed s o ≡ true
  unfolding rest_formed kind_formed
  kind-formed =
      let whole = formed s o 8 (kind_data option) h e (rw kind-width (omega arith)) in
      let last = rw kind-width at (ends s o 8 (kind_data option) h e) in
      rw (ne_eqb (length s) o (more s o 8 (kind_data option) h e), rw kind-width at whole, eq-eqb (length s) (after_field o option_width) last)

  at-kind : At s (kind_at o) (kind_data option)
  at-kind = at_body s o 8 (kind_data option) h

  at-expiry : At s (expiry_at o) (number_bytes 1 option.expiry ++ number_bytes 4 option.strike)
  at-expiry = rw (digits-length 1 option.kind) at (at_second s (kind_at o) (number_bytes 1 option.kind) _ at-kind)

  at-strike : At s (strike_at o) (number_bytes 4 option.strike)
  at-strike = rw (digits-length 1 option.expiry) at (at_second s (expiry_at o) (number_bytes 1 option.expiry) _ at-expiry)

  kind-same : option.tag ≡ 8 → SoundOption option → kind_option_at s o ≡ option
  unfolding kind_option_at
  kind-same tag r =
      let unlisted : Column most_dates option.dates 0 256 = rw (r.no-list tag) at r.dates in
      rw (
        at-number s (kind_at o) 1 option.kind r.kind (at_first s (kind_at o) (number_bytes 1 option.kind) _ at-kind),
        at-number s (expiry_at o) 1 option.expiry r.expiry (at_first s (expiry_at o) (number_bytes 1 option.expiry) _ at-expiry),
        at-number s (strike_at o) 4 option.strike r.strike at-strike,
        column-zeros most_dates option.dates 256 unlisted,
        ← tag,
        ← r.no-list tag,
      )

  kind-read : option.tag ≡ 8 → SoundOption option → option_at s o ≡ option
  kind-read tag r =
      option-kind s o (more s o 8 (kind_data option) h e) (at_tag s o 8 (kind_data option) h) ∙ kind-same tag r

-- an option 0A that ends the list
module _
    (s : List ℕ)
    (o : ℕ)
    (option : OptionRecord)
    (r : SoundOption option)
    (h : At s o (field 10 (list_data option)))
    (e : length s ≡ o + length (field 10 (list_data option))) where
  dates-length : length (take option.count option.dates) ≡ option.count
  dates-length = length-take-le option.count option.dates (rw r.dates.size r.few)

  list-width : length (list_data option) ≡ list_head + option.count
  list-width = simp (length-append, digits-length, dates-length) (omega arith)

  list-ends : length s ≡ dates_at o + option.count
  list-ends = omega (arith, ends s o 10 (list_data option) h e, list-width)

  width-left : length (list_data option) ≡ bytes_left s o
  width-left = omega (arith, list-ends, list-width)

  count_left : dates_left s o ≡ option.count
  count_left = omega (arith, list-ends)

  list-formed : rest_formed s o ≡ true
  unfolding rest_formed list_formed
  list-formed =
      let whole = formed s o 10 (list_data option) h e (omega (arith, r.few, list-width)) in
      rw (
        ne_eqb (length s) o (more s o 10 (list_data option) h e),
        le-leb (after_field o list_head) (length s) (omega (arith, list-ends)),
        rw width-left at whole,
      )
      (or-true (kind_formed s o))

  at_side : At s (side_at o) (list_data option)
  at_side = at_body s o 10 (list_data option) h

  at-list-strike : At s (list_strike_at o) (number_bytes 4 option.strike ++ take option.count option.dates)
  at-list-strike = rw (digits-length 1 option.kind) at (at_second s (side_at o) (number_bytes 1 option.kind) _ at_side)

  at-dates : At s (dates_at o) (take option.count option.dates)
  at-dates = rw (digits-length 4 option.strike) at (at_second s (list_strike_at o) (number_bytes 4 option.strike) _ at-list-strike)

  date-read : (k : ℕ) → k < option.count → date_of s (dates_at o) k ≡ values option.dates k
  date-read k below =
      at_entry s (dates_at o) (take option.count option.dates) k (rw dates-length below) at-dates
      ∙ get_or-take option.count option.dates k 0 below

  dates-read : padded most_dates option.count (date_of s (dates_at o)) ≡ option.dates
  dates-read = column-padded most_dates option.dates option.count 256 (date_of s (dates_at o)) r.dates date-read

  list_same : option.tag ≡ 10 → list_option_at s o ≡ option
  unfolding list_option_at
  list_same tag =
      rw (
        at-number s (side_at o) 1 option.kind r.kind (at_first s (side_at o) (number_bytes 1 option.kind) _ at_side),
        at-number s (list_strike_at o) 4 option.strike r.strike (at_first s (list_strike_at o) (number_bytes 4 option.strike) _ at-list-strike),
        count_left,
        dates-read,
        ← tag,
        ← r.no-expiry tag,
      )

  list_read : option.tag ≡ 10 → option_at s o ≡ option
  list_read tag =
      let named : get_or s o 0 ≡ 10 = at_tag s o 10 (list_data option) h in
      option-list s o (more s o 10 (list_data option) h e) (λ eight. omega (arith, named)) ∙ list_same tag

-- an option that is not there
none-formed : (s : List ℕ) (o : ℕ) → length s ≡ o → rest_formed s o ≡ true
unfolding rest_formed
none-formed s o same = rw (eq-eqb (length s) o same)

-- whichever it is
module _
    (s : List ℕ)
    (o : ℕ)
    (option : OptionRecord)
    (r : SoundOption option)
    (h : At s o (option_field option))
    (e : length s ≡ o + length (option_field option)) where
  rest-written : rest_formed s o ≡ true
  rest-written =
      by_equal option.tag 8 (λ tag. kind-formed s o option (rw (field-kind option tag) at h) (rw (field-kind option tag) at e))
      (λ unlike.
      by_equal option.tag 10 (λ tag. list-formed s o option r (rw (field-list option unlike tag) at h) (rw (field-list option unlike tag) at e))
      (λ neither. none-formed s o (rw (field-none option unlike neither) at e ∙ add-zero o)))

  option-read : option_at s o ≡ option
  option-read =
      by_equal option.tag 8 (λ tag. kind-read s o option (rw (field-kind option tag) at h) (rw (field-kind option tag) at e) tag r)
      (λ unlike.
      by_equal option.tag 10
      (λ tag. list_read s o option r (rw (field-list option unlike tag) at h) (rw (field-list option unlike tag) at e) tag)
      (λ neither. option-none s o (rw (field-none option unlike neither) at e ∙ add-zero o) ∙ sym (r.absent unlike neither)))

-- the quotes, the flows and the option of a record
abbrev quotes_of : Job → List ℕ
quotes_of job = joined job.steps (quote_field job)

abbrev flows_of : Job → List ℕ
flows_of job = joined job.steps (flow_field job)

abbrev body_of : Job → List ℕ
body_of job = quotes_of job ++ (flows_of job ++ option_field job.option)

quotes-size : (job : Job) → length (quotes_of job) ≡ (8 + 3) * job.steps
quotes-size job = fields-size (values job.kinds) (values job.figures) 8 job.steps

flows-size : (job : Job) → length (flows_of job) ≡ (4 + 3) * job.steps
flows-size job = fields-size (λ i. 7) (values job.flows) 4 job.steps

-- where they end the list: from any place on
module _ (s : List ℕ) (from : ℕ) (job : Job) (h : At s from (body_of job)) (e : length s ≡ from + length (body_of job)) where
  at-quotes : At s from (quotes_of job)
  at-quotes = at_first s from (quotes_of job) _ h

  after-quotes : At s (flows_at from job.steps) (flows_of job ++ option_field job.option)
  after-quotes = rw (quotes-size job) at (at_second s from (quotes_of job) _ h)

  at-flows : At s (flows_at from job.steps) (flows_of job)
  at-flows = at_first s (flows_at from job.steps) (flows_of job) _ after-quotes

  at_rest : At s (rest_at from job.steps) (option_field job.option)
  at_rest = rw (flows-size job) at (at_second s (flows_at from job.steps) (flows_of job) _ after-quotes)

  rest-size : length s ≡ rest_at from job.steps + length (option_field job.option)
  rest-size =
      omega (
        arith,
        e,
        length-append (quotes_of job) (flows_of job ++ option_field job.option),
        length-append (flows_of job) (option_field job.option),
        quotes-size job,
        flows-size job,
      )

  module _ (r : SoundJob job) where
    body-written : body_formed s from job.steps ≡ true
    unfolding body_formed
    body-written =
        both (fields-formed s from (values job.kinds) (values job.figures) 8 job.steps at-quotes AnyKind (omega arith) r.kind)
        (both
        (fields-formed s (flows_at from job.steps) (λ i. 7) (values job.flows) 4 job.steps at-flows (Only 7) (omega arith) (λ i below. refl))
        (rest-written s (rest_at from job.steps) job.option r.option at_rest rest-size))

    kinds-read : padded most_job_steps job.steps (tag_of s from 8) ≡ job.kinds
    kinds-read =
        column-padded most_job_steps job.kinds job.steps _ (tag_of s from 8) r.kinds
        (tags-read s from (values job.kinds) (values job.figures) 8 job.steps at-quotes)

    figures-read : padded most_job_steps job.steps (data_of s from 8) ≡ job.figures
    figures-read =
        column-padded most_job_steps job.figures job.steps _ (data_of s from 8) r.figures
        (numbers-read s from (values job.kinds) (values job.figures) 8 job.steps at-quotes r.figures.below)

    flows-read : padded most_job_steps job.steps (data_of s (flows_at from job.steps) 4) ≡ job.flows
    flows-read =
        column-padded most_job_steps job.flows job.steps _ (data_of s (flows_at from job.steps) 4) r.flows
        (numbers-read s (flows_at from job.steps) (λ i. 7) (values job.flows) 4 job.steps at-flows r.flows.below)

    rest_read : option_at s (rest_at from job.steps) ≡ job.option
    rest_read = option-read s (rest_at from job.steps) job.option r.option at_rest rest-size

module _ (job : Job) where
  -- f, n, b and s
  field₁ : List ℕ
  field₁ = field 1 (number_bytes 1 job.frequency)

  field₂ : List ℕ
  field₂ = field 2 (number_bytes 1 job.steps)

  field₃ : List ℕ
  field₃ = field 3 (number_bytes 2 job.reversion)

  field₄ : List ℕ
  field₄ = field 4 (number_bytes 4 job.volatility)

  size₁ : length field₁ ≡ 1 + 3
  unfolding field₁
  size₁ = number_size 1 1 job.frequency

  size₂ : length field₂ ≡ 1 + 3
  unfolding field₂
  size₂ = number_size 2 1 job.steps

  size₃ : length field₃ ≡ 2 + 3
  unfolding field₃
  size₃ = number_size 3 2 job.reversion

  size₄ : length field₄ ≡ 4 + 3
  unfolding field₄
  size₄ = number_size 4 4 job.volatility

  at-frequency : At (encode job) frequency_at (field₁ ++ (field₂ ++ (field₃ ++ (field₄ ++ (version_field job.version ++ body_of job)))))
  unfolding encode field₁ field₂ field₃ field₄
  at-frequency = at_all (encode job)

  at-steps : At (encode job) steps_at (field₂ ++ (field₃ ++ (field₄ ++ (version_field job.version ++ body_of job))))
  at-steps = rw size₁ at (at_second (encode job) frequency_at field₁ _ at-frequency)

  at-reversion : At (encode job) reversion_at (field₃ ++ (field₄ ++ (version_field job.version ++ body_of job)))
  at-reversion = rw size₂ at (at_second (encode job) steps_at field₂ _ at-steps)

  at-volatility : At (encode job) volatility_at (field₄ ++ (version_field job.version ++ body_of job))
  at-volatility = rw size₃ at (at_second (encode job) reversion_at field₃ _ at-reversion)

  at-version : At (encode job) version_at (version_field job.version ++ body_of job)
  at-version = rw size₄ at (at_second (encode job) volatility_at field₄ _ at-volatility)

  -- where the body starts
  abbrev body_at : ℕ
  body_at = version_at + length (version_field job.version)

  at-body-of : At (encode job) body_at (body_of job)
  at-body-of = at_second (encode job) version_at (version_field job.version) _ at-version

  encode-size : length (encode job) ≡ body_at + length (body_of job)
  unfolding encode
  encode-size = simp (length-append, number_size) (omega arith)

  -- the four fields of the head
  frequency-field : At (encode job) frequency_at (field 1 (number_bytes 1 job.frequency))
  unfolding field₁
  frequency-field = at_first (encode job) frequency_at _ _ at-frequency

  steps-field : At (encode job) steps_at (field 2 (number_bytes 1 job.steps))
  unfolding field₂
  steps-field = at_first (encode job) steps_at _ _ at-steps

  reversion-field : At (encode job) reversion_at (field 3 (number_bytes 2 job.reversion))
  unfolding field₃
  reversion-field = at_first (encode job) reversion_at _ _ at-reversion

  volatility-field : At (encode job) volatility_at (field 4 (number_bytes 4 job.volatility))
  unfolding field₄
  volatility-field = at_first (encode job) volatility_at _ _ at-volatility

  head-written : head_formed (encode job) ≡ true
  unfolding head_formed
  head-written =
      both (only-formed (encode job) frequency_at 1 1 job.frequency frequency-field (omega arith))
      (both (only-formed (encode job) steps_at 2 1 job.steps steps-field (omega arith))
      (both (only-formed (encode job) reversion_at 3 2 job.reversion reversion-field (omega arith))
      (only-formed (encode job) volatility_at 4 4 job.volatility volatility-field (omega arith))))

  module _ (r : SoundJob job) where
    steps-read : steps_of (encode job) ≡ job.steps
    steps-read = number_read (encode job) steps_at 2 1 job.steps steps-field r.steps

    formed-there : body_formed (encode job) body_at job.steps ≡ true
    formed-there = body-written (encode job) body_at job at-body-of encode-size r

    -- a version that was written
    module _ (some : job.version ≡ 0 → ⊥) where
      version-is : version_field job.version ≡ field 11 (number_bytes 1 job.version)
      unfolding version_field
      version-is = rw (ne_eqb job.version 0 some)

      known : is_version job.version ≡ true
      known = rw (ne_eqb job.version 0 some) at r.version

      version-there : At (encode job) version_at (field 11 (number_bytes 1 job.version))
      version-there = rw version-is at (at_first (encode job) version_at (version_field job.version) _ at-version)

      number-there : number_at (encode job) (data_at version_at) 1 ≡ job.version
      number-there = number_read (encode job) version_at 11 1 job.version version-there (omega (arith, version-small job.version known))

      has-version : has_version (encode job) ≡ true
      unfolding has_version
      has-version =
          both (only-formed (encode job) version_at 11 1 job.version version-there (omega arith)) (rw number-there known)

      body-after : body_at ≡ quotes_at (encode job)
      body-after = omega (arith, ap length version-is, number_size 11 1 job.version, quotes-after (encode job) has-version)

      version-again : version_of (encode job) ≡ job.version
      version-again = version-read (encode job) has-version ∙ number-there

    -- no version
    module _ (none : job.version ≡ 0) where
      nothing : version_field job.version ≡ []
      unfolding version_field
      nothing = rw (eq-eqb job.version 0 none)

      starts : body_at ≡ version_at
      starts = omega (arith, ap length nothing)

      no-version : has_version (encode job) ≡ false
      no-version = sym (version-absent (encode job) (rw starts at (body-apart (encode job) body_at job.steps formed-there)))

      body-there : body_at ≡ quotes_at (encode job)
      body-there = starts ∙ sym (quotes-there (encode job) no-version)

      version-zero : version_of (encode job) ≡ job.version
      version-zero = version-missing (encode job) no-version ∙ sym none

    -- where the quotes are read, and the version
    body-at : body_at ≡ quotes_at (encode job)
    body-at = by_equal job.version 0 body-there body-after

    version-same : version_of (encode job) ≡ job.version
    version-same = by_equal job.version 0 version-zero version-again

    at-quotes-of : At (encode job) (quotes_at (encode job)) (body_of job)
    at-quotes-of = rw body-at at at-body-of

    size-from : length (encode job) ≡ quotes_at (encode job) + length (body_of job)
    size-from = rw body-at at encode-size

    -- a record with many steps and many dates passes the limit
    pub encode-formed : length (encode job) ≤ most_bytes → well_formed (encode job) ≡ true
    unfolding well_formed
    encode-formed short =
        rw steps-read
        (both (le-leb (length (encode job)) most_bytes short)
        (both head-written (body-written (encode job) (quotes_at (encode job)) job at-quotes-of size-from r)))

    pub encode-read : job_of (encode job) ≡ job
    unfolding job_of
    encode-read =
        rw (
          number_read (encode job) frequency_at 1 1 job.frequency frequency-field r.frequency,
          steps-read,
          number_read (encode job) reversion_at 3 2 job.reversion reversion-field r.reversion,
          number_read (encode job) volatility_at 4 4 job.volatility volatility-field r.volatility,
          version-same,
          kinds-read (encode job) (quotes_at (encode job)) job at-quotes-of size-from r,
          figures-read (encode job) (quotes_at (encode job)) job at-quotes-of size-from r,
          flows-read (encode job) (quotes_at (encode job)) job at-quotes-of size-from r,
          rest_read (encode job) (quotes_at (encode job)) job at-quotes-of size-from r,
        )
