-- What is accepted is the bytes of the record read.
-- Assumes nothing.
use Prim.Native.Nat.{ℕ, ◌+◌, ◌*◌, ◌^◌, ◌≤◌, ◌<◌}
use native.Mathlib.Omega.{arith}
use mathlib.Core.Bool.{Bool, true, false, ◌||◌, or-true}
use mathlib.Core.List.{List, ◌++◌}
use mathlib.Core.Path.{◌≡◌, refl, sym, ap, ◌∙◌}
use borrow.Author.Tests.{ne_eqb}
use lib.Dec.{eqb}
use lib.ListN.{length, take, drop, drop_of_length-le}
use Rattle.arithmetic.specs.Row.{values, padded}
use Rattle.reversion.specs.Reversion.{is_version}
use Rattle.job_record.specs.Bytes.{Bytes, number_at, number_bytes}
use Rattle.job_record.specs.Form.{
  most_job_steps,
  most_dates,
  data_at,
  after_field,
  after_fields,
  is_kind,
  frequency_at,
  steps_at,
  reversion_at,
  volatility_at,
  version_at,
  has_version,
  quotes_at,
  flows_at,
  rest_at,
  kind_at,
  expiry_at,
  strike_at,
  side_at,
  list_strike_at,
  dates_at,
  option_width,
  list_head,
  bytes_left,
  dates_left,
  kind_formed,
  list_formed,
  head_formed,
  rest_formed,
  body_formed,
  steps_of,
  well_formed,
}
use Rattle.job_record.specs.Reader.{tag_of, data_of, date_of, no_option, kind_option_at, list_option_at, option_at, version_of, job_of}
use Rattle.job_record.specs.Grammar.{field, joined, option_field, version_field, encode, Column, SoundOption, SoundJob}
use Rattle.job_record.specs.declared.Tags.TheVariants.{AnyKind, Only}
use Rattle.job_record.proofs.Numbers.{number_bound}
use Rattle.job_record.proofs.Forms.{
  field-has,
  field-tag,
  fields-each,
  head-frequency,
  head-steps,
  head-reversion,
  head-volatility,
  kind-field,
  kind-ends,
  list-head,
  list-field,
  body-quotes,
  body-flows,
  body-rest,
  quotes-after,
  quotes-there,
  version-field,
  version-known,
  version-some,
  version-read,
  version-missing,
  well-head,
  well-body,
  steps-few,
  dates-few,
}
use Rattle.job_record.proofs.Options.{by-option, field-none}
use Rattle.arithmetic.proofs.PaddedLaws.{padded-at, padded-take}
use Rattle.job_record.proofs.Columns.{padded-column, zeros-column}
use Rattle.job_record.proofs.Pieces.{join, join-rest, bytes-piece, digits-piece, last-piece, only-field, fields-piece}

-- zeros are a sound option
pub no-option-sound : SoundOption no_option
no-option-sound =
    record {
      kind = omega arith;
      expiry = omega arith;
      strike = omega arith;
      few = omega arith;
      dates = zeros-column most_dates 256 (omega arith);
      no-list = λ e. refl;
      no-expiry = λ e. refl;
      absent = λ e f. refl;
    }

module _ (s : List ℕ) (b : Bytes s) where
  -- kind, expiry and strike are the data of 08
  kind-data :
      (o : ℕ) → length s ≡ after_field o option_width
      → number_bytes 1 (number_at s (kind_at o) 1) ++ (number_bytes 1 (number_at s (expiry_at o) 1) ++ number_bytes 4 (number_at s (strike_at o) 4))
      ≡ take option_width (drop (data_at o) s)
  kind-data o long =
      rw (digits-piece s b (kind_at o) 1 (omega arith), digits-piece s b (expiry_at o) 1 (omega arith), digits-piece s b (strike_at o) 4 (omega arith))
      (ap (λ (l : List ℕ). take 1 (drop (kind_at o) s) ++ l) (join 1 4 (expiry_at o) s) ∙ join 1 (1 + 4) (kind_at o) s)

  -- side, strike and n dates are the data of 0A
  list-data :
      (o n : ℕ) → n ≤ most_dates → dates_at o + n ≤ length s
      → number_bytes 1 (number_at s (side_at o) 1)
      ++ (number_bytes 4 (number_at s (list_strike_at o) 4) ++ take n (padded most_dates n (date_of s (dates_at o))))
      ≡ take (1 + (4 + n)) (drop (data_at o) s)
  list-data o n few long =
      rw (
        digits-piece s b (side_at o) 1 (omega arith),
        digits-piece s b (list_strike_at o) 4 (omega arith),
        padded-take most_dates n (date_of s (dates_at o)) few,
        bytes-piece s (dates_at o) n long,
      )
      (ap (λ (l : List ℕ). take 1 (drop (side_at o) s) ++ l) (join 4 n (list_strike_at o) s) ∙ join 1 (4 + n) (side_at o) s)

  -- each option is its bytes, and nothing is none
  kind-piece : (o : ℕ) → kind_formed s o ≡ true → option_field (kind_option_at s o) ≡ drop o s
  unfolding option_field kind_option_at
  kind-piece o h = ap (field 8) (kind-data o (kind-ends s o h)) ∙ last-piece s b o 8 option_width (kind-field s o h) (kind-ends s o h)

  list-piece : (o : ℕ) → dates_left s o ≤ most_dates → list_formed s o ≡ true → option_field (list_option_at s o) ≡ drop o s
  unfolding option_field list_option_at
  list-piece o few h =
      let head : after_field o list_head ≤ length s = list-head s o h in
      let size : 1 + (4 + dates_left s o) ≡ bytes_left s o = omega arith in
      ap (field 10) (list-data o (dates_left s o) few (omega arith) ∙ ap (λ (k : ℕ). take k (drop (data_at o) s)) size)
      ∙ last-piece s b o 10 (bytes_left s o) (list-field s o h) (omega arith)

  none-piece : (o : ℕ) → length s ≡ o → option_field no_option ≡ drop o s
  none-piece o same = field-none no_option (λ e. omega arith) (λ e. omega arith) ∙ sym (drop_of_length-le s {i = o} (omega arith))

  option-piece : (o : ℕ) → dates_left s o ≤ most_dates → rest_formed s o ≡ true → option_field (option_at s o) ≡ drop o s
  option-piece o few h = by-option s o (λ option. option_field option ≡ drop o s) h (none-piece o) (kind-piece o) (list-piece o few)

  kind-sound : (o : ℕ) → SoundOption (kind_option_at s o)
  unfolding kind_option_at
  kind-sound o =
      record {
        kind = number_bound s b (kind_at o) 1;
        expiry = number_bound s b (expiry_at o) 1;
        strike = number_bound s b (strike_at o) 4;
        few = omega arith;
        dates = zeros-column most_dates 256 (omega arith);
        no-list = λ e. refl;
        no-expiry = λ e. let none : ⊥ = omega arith in absurd none;
        absent = λ e f. absurd (e refl);
      }

  list-sound : (o : ℕ) → dates_left s o ≤ most_dates → SoundOption (list_option_at s o)
  unfolding list_option_at
  list-sound o few =
      record {
        kind = number_bound s b (side_at o) 1;
        expiry = omega arith;
        strike = number_bound s b (list_strike_at o) 4;
        few = few;
        dates = padded-column most_dates (dates_left s o) (date_of s (dates_at o)) 256 few (omega arith) (λ k below. b (dates_at o + k));
        no-list = λ e. let none : ⊥ = omega arith in absurd none;
        no-expiry = λ e. refl;
        absent = λ e f. absurd (f refl);
      }

  option-sound : (o : ℕ) → dates_left s o ≤ most_dates → rest_formed s o ≡ true → SoundOption (option_at s o)
  option-sound o few h = by-option s o SoundOption h (λ same. no-option-sound) (λ kind. kind-sound o) (λ list. list-sound o few)

  -- the columns of fields that stand from any place on
  module _ (from width n : ℕ) (few : n ≤ most_job_steps) where
    tags-column : Column most_job_steps (padded most_job_steps n (tag_of s from width)) n 256
    tags-column = padded-column most_job_steps n (tag_of s from width) 256 few (omega arith) (λ k below. b (after_fields from width k))

    numbers-column : 0 < 256 ^ width → Column most_job_steps (padded most_job_steps n (data_of s from width)) n (256 ^ width)
    numbers-column positive =
        padded-column most_job_steps n (data_of s from width) (256 ^ width) few positive
        (λ k below. number_bound s b (data_at (after_fields from width k)) width)

  -- the quotes, the flows and the option, from any place on
  module _ (quotes n : ℕ) (few : n ≤ most_job_steps) (listed : dates_left s (rest_at quotes n) ≤ most_dates) (h : body_formed s quotes n ≡ true) where
    quotes-piece :
        joined n (λ i. field (values (padded most_job_steps n (tag_of s quotes 8)) i)
        (number_bytes 8 (values (padded most_job_steps n (data_of s quotes 8)) i)))
        ≡ take ((8 + 3) * n) (drop quotes s)
    quotes-piece =
        fields-piece s b quotes AnyKind 8 n (body-quotes s quotes n h) _
        (λ i below. rw (padded-at most_job_steps n (tag_of s quotes 8) i few below, padded-at most_job_steps n (data_of s quotes 8) i few below))

    flow-tag : (i : ℕ) → i < n → tag_of s (flows_at quotes n) 4 i ≡ 7
    flow-tag i below =
        field-tag s (after_fields (flows_at quotes n) 4 i) 7 4 (fields-each s (flows_at quotes n) (Only 7) 4 n (body-flows s quotes n h) i below)

    flows-piece :
        joined n (λ i. field 7 (number_bytes 4 (values (padded most_job_steps n (data_of s (flows_at quotes n) 4)) i)))
        ≡ take ((4 + 3) * n) (drop (flows_at quotes n) s)
    flows-piece =
        fields-piece s b (flows_at quotes n) (Only 7) 4 n (body-flows s quotes n h) _
        (λ i below. rw (padded-at most_job_steps n (data_of s (flows_at quotes n) 4) i few below, flow-tag i below))

    body-piece :
        joined n (λ i. field (values (padded most_job_steps n (tag_of s quotes 8)) i)
        (number_bytes 8 (values (padded most_job_steps n (data_of s quotes 8)) i)))
        ++ (joined n (λ i. field 7 (number_bytes 4 (values (padded most_job_steps n (data_of s (flows_at quotes n) 4)) i)))
        ++ option_field (option_at s (rest_at quotes n)))
        ≡ drop quotes s
    body-piece =
        rw (quotes-piece, flows-piece, option-piece (rest_at quotes n) listed (body-rest s quotes n h))
        (ap (λ (l : List ℕ). take ((8 + 3) * n) (drop quotes s) ++ l) (join-rest ((4 + 3) * n) (flows_at quotes n) s)
        ∙ join-rest ((8 + 3) * n) quotes s)

    quote-kind : (k : ℕ) → k < n → is_kind (values (padded most_job_steps n (tag_of s quotes 8)) k) ≡ true
    quote-kind k below =
        rw (padded-at most_job_steps n (tag_of s quotes 8) k few below)
        (field-has s (after_fields quotes 8 k) AnyKind 8 (fields-each s quotes AnyKind 8 n (body-quotes s quotes n h) k below))

  -- the fields of the head, and the rest of the job
  head-piece :
      head_formed s ≡ true
      → field 1 (number_bytes 1 (number_at s (data_at frequency_at) 1))
      ++ (field 2 (number_bytes 1 (number_at s (data_at steps_at) 1))
      ++ (field 3 (number_bytes 2 (number_at s (data_at reversion_at) 2))
      ++ (field 4 (number_bytes 4 (number_at s (data_at volatility_at) 4)) ++ drop version_at s)))
      ≡ s
  head-piece formed =
      rw (
        only-field s b frequency_at 1 1 (head-frequency s formed),
        only-field s b steps_at 2 1 (head-steps s formed),
        only-field s b reversion_at 3 2 (head-reversion s formed),
        only-field s b volatility_at 4 4 (head-volatility s formed),
      )
      (rw (join-rest (4 + 3) volatility_at s, join-rest (2 + 3) reversion_at s, join-rest (1 + 3) steps_at s, join-rest (1 + 3) frequency_at s))

  -- the version, or nothing, and what follows it
  version-here : has_version s ≡ true → version_field (version_of s) ++ drop (quotes_at s) s ≡ drop version_at s
  unfolding version_field version_of
  version-here h =
      rw (h, quotes-after s h, ne_eqb (number_at s (data_at version_at) 1) 0 (version-some _ (version-known s h)))
      (rw (only-field s b version_at 11 1 (version-field s h)) (join-rest (1 + 3) version_at s))

  version-none : has_version s ≡ false → version_field (version_of s) ++ drop (quotes_at s) s ≡ drop version_at s
  unfolding version_field version_of
  version-none h = rw (h, quotes-there s h)

  version-piece : version_field (version_of s) ++ drop (quotes_at s) s ≡ drop version_at s
  version-piece = go (has_version s) refl
    where
      go : (t : Bool) → has_version s ≡ t → version_field (version_of s) ++ drop (quotes_at s) s ≡ drop version_at s
      go true e = version-here e
      go false e = version-none e

  version-sound : (eqb (version_of s) 0 || is_version (version_of s)) ≡ true
  version-sound = go (has_version s) refl
    where
      go : (t : Bool) → has_version s ≡ t → (eqb (version_of s) 0 || is_version (version_of s)) ≡ true
      go true e = rw (version-read s e, version-known s e) (or-true (eqb (number_at s (data_at version_at) 1) 0))
      go false e = rw (version-missing s e)

  module _ (h : well_formed s ≡ true) where
    pub written : encode (job_of s) ≡ s
    unfolding encode job_of
    written =
        rw (body-piece (quotes_at s) (steps_of s) (steps-few s b) (dates-few s h) (well-body s h), version-piece) (head-piece (well-head s h))

    pub read-sound : SoundJob (job_of s)
    unfolding job_of
    read-sound =
        record {
          frequency = number_bound s b (data_at frequency_at) 1;
          steps = number_bound s b (data_at steps_at) 1;
          reversion = number_bound s b (data_at reversion_at) 2;
          volatility = number_bound s b (data_at volatility_at) 4;
          version = version-sound;
          kinds = tags-column (quotes_at s) 8 (steps_of s) (steps-few s b);
          kind = quote-kind (quotes_at s) (steps_of s) (steps-few s b) (dates-few s h) (well-body s h);
          figures = numbers-column (quotes_at s) 8 (steps_of s) (steps-few s b) (omega arith);
          flows = numbers-column (flows_at (quotes_at s) (steps_of s)) 4 (steps_of s) (steps-few s b) (omega arith);
          option = option-sound (rest_at (quotes_at s) (steps_of s)) (dates-few s h) (body-rest s (quotes_at s) (steps_of s) (well-body s h));
        }
