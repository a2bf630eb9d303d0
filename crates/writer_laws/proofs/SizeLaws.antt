-- How long the bytes of a record are, part by part.
-- Assumes nothing.
use Prim.Native.Nat.{ℕ, ◌+◌, ◌*◌, ◌≤◌}
use native.Mathlib.Omega.{arith}
use mathlib.Core.List.{List, [], ◌++◌, append_assoc}
use mathlib.Core.Path.{◌≡◌, ap, ◌∙◌}
use borrow.Author.Tests.{eq-eqb, ne_eqb}
use lib.ListN.{length, take, length-append}
use Rattle.arithmetic.specs.Row.{values, place}
use Rattle.arithmetic.proofs.Numbers.{by_equal}
use Rattle.job_record.specs.Form.{most_bytes, most_dates, version_at, flows_at, rest_at, after_field, after_fields, option_width, list_head}
use Rattle.job_record.specs.Bytes.{number_bytes}
use Rattle.job_record.specs.Grammar.{field, joined, kind_data, list_data, option_field, version_field, encode, SoundOption, SoundJob}
use Rattle.job_record.specs.declared.OptionRecord.{OptionRecord}
use Rattle.job_record.specs.declared.Job.{Job}
use Rattle.job_record.proofs.Options.{field-kind, field-list, field-none}
use Rattle.job_record.proofs.Places.{digits-length, field-size}
use Rattle.job_record.proofs.ReadLaws.{lent_length}
use Rattle.job_record.proofs.Reread.{number_size, fields-size}
use Rattle.writer_laws.specs.inside.Parts.{head_fields, quotes_from, quote_of, flow_of, option_size}
use Rattle.writer_laws.proofs.PutLaws.{place-two, place-four}

module _ (option : OptionRecord) where
  pub kind-size : option.tag ≡ 8 → length (option_field option) ≡ after_field 0 option_width
  kind-size tag = rw (field-kind option tag) (field-size 8 (kind_data option) ∙ simp (length-append, digits-length))

  module _ (sound : SoundOption option) where
    pub dates-lent : length (take option.count option.dates) ≡ option.count
    dates-lent = lent_length _ _ _ _ sound.dates sound.few

    pub list-size : (option.tag ≡ 8 → ⊥) → option.tag ≡ 10 → length (option_field option) ≡ after_field 0 list_head + option.count
    list-size unlike tag =
        rw (field-list option unlike tag)
        (field-size 10 (list_data option) ∙ simp (length-append, digits-length, dates-lent) (omega arith))

    pub option-size-is : length (option_field option) ≡ option_size option.tag option.count
    unfolding option_size
    option-size-is =
        by_equal option.tag 8 (λ tag. simp (eq-eqb option.tag 8 tag) (kind-size tag))
        (λ unlike.
        by_equal option.tag 10
        (λ tag. simp (ne_eqb option.tag 8 unlike, eq-eqb option.tag 10 tag) (list-size unlike tag))
        (λ neither. simp (ne_eqb option.tag 8 unlike, ne_eqb option.tag 10 neither) (ap length (field-none option unlike neither))))

pub option-size-few : (tag count : ℕ) → count ≤ most_dates → option_size tag count ≤ most_bytes
unfolding option_size
option-size-few tag count few =
    by_equal tag 8 (λ same. simp (eq-eqb tag 8 same) (omega arith))
    (λ unlike.
    by_equal tag 10 (λ same. simp (ne_eqb tag 8 unlike, eq-eqb tag 10 same) (omega arith))
    (λ neither. simp (ne_eqb tag 8 unlike, ne_eqb tag 10 neither) (omega arith)))

-- the version, if there is one
module _ (v : ℕ) where
  pub version-absent : v ≡ 0 → version_field v ≡ []
  unfolding version_field
  version-absent none = rw (eq-eqb v 0 none)

  module _ (some : v ≡ 0 → ⊥) where
    pub version-there : version_field v ≡ field 11 (number_bytes 1 v)
    unfolding version_field
    version-there = rw (ne_eqb v 0 some)

    pub quotes-behind : quotes_from v ≡ after_field version_at 1
    unfolding quotes_from
    quotes-behind = rw (ne_eqb v 0 some)

  quotes-there : v ≡ 0 → quotes_from v ≡ version_at
  unfolding quotes_from
  quotes-there none = rw (eq-eqb v 0 none)

  pub version-size : version_at + length (version_field v) ≡ quotes_from v
  version-size =
      by_equal v 0 (λ none. rw (version-absent none, quotes-there none))
      (λ some. rw (version-there some, quotes-behind some, number_size 11 1 v))

-- the parts of a record's bytes
module _ (job : Job) where
  head : List ℕ
  head = head_fields job.frequency job.steps job.reversion job.volatility

  front : List ℕ
  front = head ++ version_field job.version

  quotes : List ℕ
  quotes = joined job.steps (quote_of job.kinds job.figures)

  flows : List ℕ
  flows = joined job.steps (flow_of job.flows)

  encode-parts : encode job ≡ front ++ (quotes ++ (flows ++ option_field job.option))
  unfolding encode head front quotes flows
  encode-parts = simp append_assoc

  head-size : length head ≡ version_at
  unfolding head
  head-size = simp (length-append, number_size)

  front-size : length front ≡ quotes_from job.version
  unfolding front
  front-size = length-append head (version_field job.version) ∙ ap (λ (n : ℕ). n + length (version_field job.version)) head-size
      ∙ version-size job.version

  quotes-size : length quotes ≡ (8 + 3) * job.steps
  unfolding quotes
  quotes-size = fields-size (values job.kinds) (values job.figures) 8 job.steps

  flows-size : length flows ≡ (4 + 3) * job.steps
  unfolding flows
  flows-size = fields-size (λ i. 7) (values job.flows) 4 job.steps

  pub encode-size : length (encode job) ≡ rest_at (quotes_from job.version) job.steps + length (option_field job.option)
  encode-size =
      let whole : length (encode job) ≡ length front + (length quotes + (length flows + length (option_field job.option))) =
      rw (encode-parts) (simp length-append) in
      omega (arith, front-size, quotes-size, flows-size)

  -- there is room for the head
  pub head-within : version_at ≤ quotes_from job.version
  head-within = omega (arith, version-size job.version)

  -- there is room for the flows, in a memory that keeps its length
  pub flows-room :
      SoundJob job → (at : ℕ) → at ≡ quotes_from job.version → (room last : ℕ) → length (encode job) ≤ room → last ≡ room
      → (after_fields (flows_at at job.steps) 4 job.steps ≤ last) × (job.steps ≤ length job.flows)
  flows-room sound at from room last enough same = (omega (arith, encode-size), omega (arith, sound.steps, sound.flows.size))

  pub size_is :
      (size : ℕ) → size ≡ rest_at (quotes_from job.version) job.steps + option_size job.option.tag job.option.count
      → SoundOption job.option → size ≡ length (encode job)
  size_is size e sound = omega (arith, encode-size, option-size-is job.option sound)

  -- each part placed where the one before it ends
  pub job-placed :
      (at : ℕ) → at ≡ quotes_from job.version → (out : List ℕ) {l₀ l₁ l₂ l₃ l₄ : List ℕ} → rest_at at job.steps ≤ length out
      → l₀ ≡ place out 0 (head_fields job.frequency job.steps job.reversion job.volatility)
      → l₁ ≡ place l₀ version_at (version_field job.version)
      → l₂ ≡ place l₁ at (joined job.steps (quote_of job.kinds job.figures))
      → l₃ ≡ place l₂ (flows_at at job.steps) (joined job.steps (flow_of job.flows))
      → l₄ ≡ place l₃ (rest_at at job.steps) (option_field job.option) → l₄ ≡ place out 0 (encode job)
  unfolding head front quotes flows
  job-placed at from out {l₀} {l₁} {l₂} {l₃} {l₄} room e₀ e₁ e₂ e₃ e₄ =
      let placed : l₁ ≡ place out 0 front =
      place-two out l₀ l₁ 0 version_at head (version_field job.version) e₀ (omega (arith, head-size)) e₁ (omega (arith, head-within)) in
      rw encode-parts
      (place-four out l₁ l₂ 0 at front quotes placed (omega (arith, front-size)) e₂ l₃ (flows_at at job.steps) flows
      (omega (arith, quotes-size)) e₃ l₄ (rest_at at job.steps) (option_field job.option) (omega (arith, flows-size)) e₄ room)
