-- What the tests of a job's form say of its bytes.
-- Assumes nothing.
use Prim.Native.Nat.{ℕ, ◌+◌, ◌≤◌, ◌<◌}
use native.Mathlib.Omega.{arith}
use mathlib.Core.Bool.{Bool, true, false, ◌&&◌, ◌||◌}
use mathlib.Core.List.{List}
use mathlib.Core.Path.{◌≡◌, refl}
use borrow.Author.Tests.{leb-true, eqb-true, ne_eqb, lt-leb, le-leb}
use lib.ListN.{length, get_or}
use lib.Dec.{leb}
use Rattle.arithmetic.proofs.Numbers.{by_equal}
use Rattle.arithmetic.proofs.RowLaws.{each_none, each_more, each_all, each-fails, each_holds}
use Rattle.reversion.specs.Reversion.{is_version}
use Rattle.job_record.specs.Bytes.{Bytes, number_at}
use Rattle.job_record.specs.Form.{
  most_bytes,
  most_job_steps,
  most_dates,
  data_at,
  after_field,
  after_fields,
  is_kind,
  has_tag,
  field_at,
  fields_from,
  frequency_at,
  steps_at,
  reversion_at,
  volatility_at,
  version_at,
  has_version,
  quotes_at,
  flows_at,
  rest_at,
  option_width,
  list_head,
  bytes_left,
  dates_left,
  kind_formed,
  list_formed,
  head_formed,
  rest_formed,
  body_formed,
  steps_of,
  well_formed,
}
use Rattle.job_record.specs.Reader.{version_of}
use Rattle.job_record.specs.declared.Tags.{Tags}
use Rattle.job_record.specs.declared.Tags.TheVariants.{AnyKind, Only}
use Rattle.job_record.proofs.Answers.{first, second}
use Rattle.job_record.proofs.Numbers.{number_bound}

-- a field that stands at a place is there whole
module _ (s : List ℕ) (o : ℕ) (tags : Tags) (k : ℕ) (h : field_at s o tags k ≡ true) where
  pub field-whole : after_field o k ≤ length s
  unfolding field_at
  field-whole = leb-true _ _ (first (leb (after_field o k) (length s)) _ h)

  pub field-has : has_tag tags (get_or s o 0) ≡ true
  unfolding field_at
  field-has = first (has_tag tags (get_or s o 0)) _ (second (leb (after_field o k) (length s)) h)

  pub field-length : number_at s (o + 1) 2 ≡ k
  unfolding field_at
  field-length = eqb-true _ _ (second (has_tag tags (get_or s o 0)) (second (leb (after_field o k) (length s)) h))

pub field-tag : (s : List ℕ) (o tag k : ℕ) → field_at s o (Only tag) k ≡ true → get_or s o 0 ≡ tag
field-tag s o tag k h = eqb-true _ _ (field-has s o (Only tag) k h)

-- several fields: none, one more, one that is not there, and each of them
module _ (s : List ℕ) (from : ℕ) (tags : Tags) (width : ℕ) where
  pub fields-none : fields_from s from tags width 0 ≡ true
  unfolding fields_from
  fields-none = each_none (λ i. field_at s (after_fields from width i) tags width)

  -- place is the i-th field's, as the code has it
  pub fields-more :
      (i : ℕ) {place : ℕ} → place ≡ after_fields from width i → fields_from s from tags width i ≡ true → field_at s place tags width ≡ true →
      fields_from s from tags width (i + 1) ≡ true
  unfolding fields_from
  fields-more i here before one = each_more i (λ j. field_at s (after_fields from width j) tags width) before (rw here at one)

  pub fields-fails :
      {i place : ℕ} → place ≡ after_fields from width i → (count : ℕ) → i < count → field_at s place tags width ≡ false →
      fields_from s from tags width count ≡ false
  unfolding fields_from
  fields-fails {i} here count below none =
      each-fails count i (λ j. field_at s (after_fields from width j) tags width) below (rw here at none)

  module _ (count : ℕ) where
    pub fields-each :
        fields_from s from tags width count ≡ true → (i : ℕ) → i < count → field_at s (after_fields from width i) tags width ≡ true
    unfolding fields_from
    fields-each h i = each_holds count i (λ j. field_at s (after_fields from width j) tags width) h

    pub each-fields :
        ((i : ℕ) → i < count → field_at s (after_fields from width i) tags width ≡ true) → fields_from s from tags width count ≡ true
    unfolding fields_from
    each-fields h = each_all count (λ j. field_at s (after_fields from width j) tags width) h

-- the fields of the head
module _ (s : List ℕ) (h : head_formed s ≡ true) where
  pub head-frequency : field_at s frequency_at (Only 1) 1 ≡ true
  unfolding head_formed
  head-frequency = first (field_at s frequency_at (Only 1) 1) _ h

  after-frequency : (field_at s steps_at (Only 2) 1 && (field_at s reversion_at (Only 3) 2 && field_at s volatility_at (Only 4) 4)) ≡ true
  unfolding head_formed
  after-frequency = second (field_at s frequency_at (Only 1) 1) h

  pub head-steps : field_at s steps_at (Only 2) 1 ≡ true
  head-steps = first (field_at s steps_at (Only 2) 1) _ after-frequency

  after-steps : (field_at s reversion_at (Only 3) 2 && field_at s volatility_at (Only 4) 4) ≡ true
  after-steps = second (field_at s steps_at (Only 2) 1) after-frequency

  pub head-reversion : field_at s reversion_at (Only 3) 2 ≡ true
  head-reversion = first (field_at s reversion_at (Only 3) 2) _ after-steps

  pub head-volatility : field_at s volatility_at (Only 4) 4 ≡ true
  head-volatility = second (field_at s reversion_at (Only 3) 2) after-steps

  pub head-whole : version_at ≤ length s
  head-whole = field-whole s volatility_at (Only 4) 4 head-volatility

-- where the quotes start, with a version and without
module _ (s : List ℕ) where
  pub quotes-after : has_version s ≡ true → quotes_at s ≡ after_field version_at 1
  unfolding quotes_at
  quotes-after h = rw h

  pub quotes-there : has_version s ≡ false → quotes_at s ≡ version_at
  unfolding quotes_at
  quotes-there h = rw h

  pub quotes-near : quotes_at s ≤ after_field version_at 1
  quotes-near = go (has_version s) refl
    where
      go : (t : Bool) → has_version s ≡ t → quotes_at s ≤ after_field version_at 1
      go true h = omega (arith, quotes-after h)
      go false h = omega (arith, quotes-there h)

  pub quotes-from : version_at ≤ quotes_at s
  quotes-from = go (has_version s) refl
    where
      go : (t : Bool) → has_version s ≡ t → version_at ≤ quotes_at s
      go true h = omega (arith, quotes-after h)
      go false h = omega (arith, quotes-there h)

  -- the answer, by the test that fails first
  pub version-absent : field_at s version_at (Only 11) 1 ≡ false → false ≡ has_version s
  unfolding has_version
  version-absent bad = rw bad

  pub version-by-number : field_at s version_at (Only 11) 1 ≡ true → (v : ℕ) → v ≡ number_at s (data_at version_at) 1 → is_version v ≡ has_version s
  unfolding has_version
  version-by-number good v read = rw (good, read)

-- a version that stands there
module _ (s : List ℕ) (h : has_version s ≡ true) where
  pub version-field : field_at s version_at (Only 11) 1 ≡ true
  unfolding has_version
  version-field = first (field_at s version_at (Only 11) 1) _ h

  pub version-known : is_version (number_at s (data_at version_at) 1) ≡ true
  unfolding has_version
  version-known = second (field_at s version_at (Only 11) 1) h

-- the version that is read, 0 where there is none
pub version-read : (s : List ℕ) → has_version s ≡ true → version_of s ≡ number_at s (data_at version_at) 1
unfolding version_of
version-read s h = rw h

pub version-missing : (s : List ℕ) → has_version s ≡ false → version_of s ≡ 0
unfolding version_of
version-missing s h = rw h

-- no version is 0
pub version-some : (v : ℕ) → is_version v ≡ true → v ≡ 0 → ⊥
unfolding is_version
version-some v h z = none (rw z at h)
  where
    none : false ≡ true → ⊥
    none e = let u : ◌≡◌ {A = ℕ} 0 1 = cc in omega arith

-- each is 1 or 2
pub version-small : (v : ℕ) → is_version v ≡ true → v ≤ 2
unfolding is_version
version-small v h =
    by_equal v 1 (λ one. omega arith)
    (λ other. by_equal v 2 (λ two. omega arith) (λ another. absurd (none (rw (ne_eqb v 1 other, ne_eqb v 2 another) at h))))
  where
    none : false ≡ true → ⊥
    none e = let u : ◌≡◌ {A = ℕ} 0 1 = cc in omega arith

-- where there is an option 08, it ends the job
module _ (s : List ℕ) (o : ℕ) (h : kind_formed s o ≡ true) where
  pub kind-field : field_at s o (Only 8) option_width ≡ true
  unfolding kind_formed
  kind-field = first (field_at s o (Only 8) option_width) _ h

  pub kind-ends : length s ≡ after_field o option_width
  unfolding kind_formed
  kind-ends = eqb-true _ _ (second (field_at s o (Only 8) option_width) h)

  pub kind-tag : get_or s o 0 ≡ 8
  kind-tag = field-tag s o 8 option_width kind-field

-- where there is a list of dates 0A, it has side and strike
module _ (s : List ℕ) (o : ℕ) (h : list_formed s o ≡ true) where
  pub list-head : after_field o list_head ≤ length s
  unfolding list_formed
  list-head = leb-true _ _ (first (leb (after_field o list_head) (length s)) _ h)

  pub list-field : field_at s o (Only 10) (bytes_left s o) ≡ true
  unfolding list_formed
  list-field = second (leb (after_field o list_head) (length s)) h

  pub list-tag : get_or s o 0 ≡ 10
  list-tag = field-tag s o 10 (bytes_left s o) list-field

-- the three ways to end a job, told by its length and the tag
module _ (s : List ℕ) (o : ℕ) (h : rest_formed s o ≡ true) where
  module _ (other : length s ≡ o → ⊥) where
    rest-either : (kind_formed s o || list_formed s o) ≡ true
    unfolding rest_formed
    rest-either = rw (ne_eqb _ _ other) at h

    rest-by {ℓ} : {X : Type ℓ} (t : Bool) → kind_formed s o ≡ t → (kind_formed s o ≡ true → X) → (list_formed s o ≡ true → X) → X
    rest-by true e kind list = kind e
    rest-by false e kind list = list (rw e at rest-either)

    pub rest-kind : get_or s o 0 ≡ 8 → kind_formed s o ≡ true
    rest-kind tag = rest-by (kind_formed s o) refl (λ k. k) (λ l. let none : ⊥ = omega (arith, list-tag s o l) in absurd none)

    pub rest-list : (get_or s o 0 ≡ 8 → ⊥) → list_formed s o ≡ true
    rest-list unlike = rest-by (kind_formed s o) refl (λ k. absurd (unlike (kind-tag s o k))) (λ l. l)

    rest_more : o ≤ length s
    rest_more = rest-by (kind_formed s o) refl (λ k. omega (arith, kind-ends s o k)) (λ l. omega (arith, list-head s o l))

  pub rest_from : o ≤ length s
  rest_from = by_equal (length s) o (λ same. omega arith) rest_more

-- the quotes, the flows and what follows these
module _ (s : List ℕ) (quotes n : ℕ) (h : body_formed s quotes n ≡ true) where
  pub body-quotes : fields_from s quotes AnyKind 8 n ≡ true
  unfolding body_formed
  body-quotes = first (fields_from s quotes AnyKind 8 n) _ h

  after-quotes : (fields_from s (flows_at quotes n) (Only 7) 4 n && rest_formed s (rest_at quotes n)) ≡ true
  unfolding body_formed
  after-quotes = second (fields_from s quotes AnyKind 8 n) h

  pub body-flows : fields_from s (flows_at quotes n) (Only 7) 4 n ≡ true
  body-flows = first (fields_from s (flows_at quotes n) (Only 7) 4 n) _ after-quotes

  pub body-rest : rest_formed s (rest_at quotes n) ≡ true
  body-rest = second (fields_from s (flows_at quotes n) (Only 7) 4 n) after-quotes

  -- the fields that are not the option
  pub body-length : rest_at quotes n ≤ length s
  body-length = rest_from s (rest_at quotes n) body-rest

  -- no version stands where the quotes start
  rest-apart : rest_at quotes n ≡ quotes → field_at s quotes (Only 11) 1 ≡ true → ⊥
  rest-apart here v =
      let tag = field-tag s quotes 11 1 v in
      let whole = field-whole s quotes (Only 11) 1 v in
      let rest = rw here at body-rest in
      by_equal (length s) quotes (λ same. omega arith)
      (λ other. unlike (rest-list s quotes rest other (λ eight. let none : ⊥ = omega arith in none)) tag)
    where
      unlike : list_formed s quotes ≡ true → get_or s quotes 0 ≡ 11 → ⊥
      unlike l tag = omega (arith, list-tag s quotes l)

  first-apart : 0 < n → field_at s quotes (Only 11) 1 ≡ true → ⊥
  unfolding is_kind
  first-apart some v =
      let here : after_fields quotes 8 0 ≡ quotes = omega arith in
      let kind = field-has s (after_fields quotes 8 0) AnyKind 8 (fields-each s quotes AnyKind 8 n body-quotes 0 some) in
      no_kind (rw (here, field-tag s quotes 11 1 v) at kind)
    where
      no_kind : false ≡ true → ⊥
      no_kind e = let z : ◌≡◌ {A = ℕ} 0 1 = cc in omega arith

  pub body-apart : field_at s quotes (Only 11) 1 ≡ false
  body-apart = go (field_at s quotes (Only 11) 1) refl
    where
      apart : field_at s quotes (Only 11) 1 ≡ true → ⊥
      apart v = by_equal n 0 (λ z. rest-apart (omega arith) v) (λ some. first-apart (omega arith) v)

      go : (t : Bool) → field_at s quotes (Only 11) 1 ≡ t → field_at s quotes (Only 11) 1 ≡ false
      go true e = absurd (apart e)
      go false e = e

module _ (s : List ℕ) (h : well_formed s ≡ true) where
  pub well-short : length s ≤ most_bytes
  unfolding well_formed
  well-short = leb-true _ _ (first (leb (length s) most_bytes) _ h)

  after-length : (head_formed s && body_formed s (quotes_at s) (steps_of s)) ≡ true
  unfolding well_formed
  after-length = second (leb (length s) most_bytes) h

  pub well-head : head_formed s ≡ true
  well-head = first (head_formed s) _ after-length

  pub well-body : body_formed s (quotes_at s) (steps_of s) ≡ true
  well-body = second (head_formed s) after-length

  pub well-length : rest_at (quotes_at s) (steps_of s) ≤ length s
  well-length = body-length s (quotes_at s) (steps_of s) well-body

-- a job of bytes has at most 255 steps
pub steps-few : (s : List ℕ) → Bytes s → steps_of s ≤ most_job_steps
steps-few s b = omega (arith, number_bound s b (data_at steps_at) 1)

-- and no more dates than a record has places for
pub dates-few : (s : List ℕ) → well_formed s ≡ true → dates_left s (rest_at (quotes_at s) (steps_of s)) ≤ most_dates
dates-few s h = omega (arith, well-short s h, quotes-from s)

-- the answer, by the test that fails first
module _ (s : List ℕ) (quotes n : ℕ) where
  pub refuse-quotes : fields_from s quotes AnyKind 8 n ≡ false → false ≡ body_formed s quotes n
  unfolding body_formed
  refuse-quotes bad = rw bad

  -- flows and rest are the places after the quotes and after the flows, as the code has them
  module _ (good : fields_from s quotes AnyKind 8 n ≡ true) (flows : ℕ) (here : flows ≡ flows_at quotes n) where
    pub refuse-flows : fields_from s flows (Only 7) 4 n ≡ false → false ≡ body_formed s quotes n
    unfolding body_formed
    refuse-flows bad = rw (good, rw here at bad)

    pub formed-by-rest :
        fields_from s flows (Only 7) 4 n ≡ true → (rest : ℕ) → rest ≡ after_fields flows 4 n → rest_formed s rest ≡ body_formed s quotes n
    unfolding body_formed
    formed-by-rest formed rest there = rw (good, rw here at formed, there, here)

module _ (s : List ℕ) where
  pub refuse-long : most_bytes < length s → false ≡ well_formed s
  unfolding well_formed
  refuse-long long = rw (lt-leb (length s) most_bytes long)

  module _ (short : length s ≤ most_bytes) where
    pub refuse-head : head_formed s ≡ false → false ≡ well_formed s
    unfolding well_formed
    refuse-head bad = rw (le-leb (length s) most_bytes short, bad)

    -- n is the number of steps and `quotes` the place of the quotes, as they were read
    pub formed-by-body : head_formed s ≡ true → (n quotes : ℕ) → n ≡ steps_of s → quotes ≡ quotes_at s → body_formed s quotes n ≡ well_formed s
    unfolding well_formed
    formed-by-body head n quotes read here = rw (← read, ← here) (rw (le-leb (length s) most_bytes short, head))
