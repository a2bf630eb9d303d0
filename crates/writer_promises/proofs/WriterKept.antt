-- What writing a job promises is kept.
-- Assumes nothing.
use Prim.Native.Nat.{ℕ, zero, suc, ◌+◌, ◌≤◌, ◌<◌}
use native.Mathlib.Omega.{arith}
use mathlib.Core.Logic.{◌⊎◌, inl, inr}
use mathlib.Core.List.{List, ◌∷◌, ◌++◌}
use mathlib.Core.Path.{◌≡◌, refl, sym, ap, ◌∙◌}
use lib.ListN.{length, take, drop}
use Rattle.arithmetic.specs.Row.{values, place}
use Rattle.arithmetic.specs.Answers.{refused}
use Rattle.arithmetic.specs.declared.Answer.{Answer}
use Rattle.job_record.specs.Bytes.{Bytes, number_bytes}
use Rattle.job_record.specs.Reader.{reading_of, accepted_reading}
use Rattle.job_record.specs.Grammar.{field, joined, quote_field, flow_field, option_field, version_field, kind_data, list_data, encode, Encodes}
use Rattle.job_record.specs.declared.OptionRecord.{OptionRecord}
use Rattle.job_record.specs.declared.Job.{Job}
use Rattle.job_record.specs.declared.Reading.{Reading}
use Rattle.job_record.proofs.Options.{field-kind, field-list, field-none}
use Rattle.job_record.proofs.ReadLaws.{reads, read-encoded}
use Rattle.writer_laws.specs.Writer.{written, written_memory}
use Rattle.writer_laws.proofs.SizeLaws.{version-absent, version-there}
use Rattle.writer_laws.proofs.WriteLaws.{written-beyond, memory_kept, memory-written}
use Rattle.writer_laws.proofs.SoundTests.{job-test}
use Rattle.writer_laws.proofs.RoundTrips.{written-after-reading, bytes-after-reading, whole-answer, bytes-written, none-read-as, some-read-as}
use Rattle.writer_laws.proofs.RoundTrips.{written-encodes, answers}
use Rattle.writer_promises.specs.WriterPromises.{one, two, four, eight, quotes, flows, rows, form, Version, Option, WriterPromises}
use Rattle.writer_promises.specs.WriterPromises.Version.{by-absence, by-tag}
use Rattle.writer_promises.specs.WriterPromises.Option.{none, of-kind, on-rows}

-- a field of 1, 2, 4 or 8 bytes
module _ (tag v : ℕ) where
  field-one : field tag (number_bytes 1 v) ≡ tag ∷ 0 ∷ 1 ∷ one v
  unfolding field number_bytes
  field-one = refl

  field-two : field tag (number_bytes 2 v) ≡ tag ∷ 0 ∷ 2 ∷ two v
  unfolding field number_bytes
  field-two = refl

  field-four : field tag (number_bytes 4 v) ≡ tag ∷ 0 ∷ 4 ∷ four v
  unfolding field number_bytes
  field-four = refl

  field-eight : field tag (number_bytes 8 v) ≡ tag ∷ 0 ∷ 8 ∷ eight v
  unfolding field number_bytes
  field-eight = refl

module _ (job : Job) where
  quotes-are : (n : ℕ) → joined n (quote_field job) ≡ quotes job n
  unfolding joined quotes
  quotes-are zero = refl
  quotes-are (suc n) = rw (quotes-are n, field-eight (values job.kinds n) (values job.figures n))

  flows-are : (n : ℕ) → joined n (flow_field job) ≡ flows job n
  unfolding joined flows
  flows-are zero = refl
  flows-are (suc n) = rw (flows-are n, field-four 7 (values job.flows n))

  version-is : (part : List ℕ) → Version job part → version_field job.version ≡ part
  version-is part (by-absence absent e) = version-absent job.version absent ∙ sym e
  version-is part (by-tag some e) = version-there job.version some ∙ field-one 11 job.version ∙ sym e

module _ (option : OptionRecord) where
  kind-is : field 8 (kind_data option) ≡ 8 ∷ 0 ∷ 6 ∷ (one option.kind ++ (one option.expiry ++ four option.strike))
  unfolding field number_bytes
  kind-is = refl

  list-is : field 10 (list_data option) ≡ 10 ∷ (two (5 + length (rows option)) ++ (one option.kind ++ (four option.strike ++ rows option)))
  unfolding field number_bytes
  list-is =
      let e : suc (suc (suc (suc (suc (length (rows option)))))) ≡ 5 + length (rows option) = omega arith in
      ap (λ (n : ℕ). 10 ∷ (two n ++ (one option.kind ++ (four option.strike ++ rows option)))) e

  option_is : (part : List ℕ) → Option option part → option_field option ≡ part
  option_is part (none tag e) = field-none option (λ same. omega arith) (λ same. omega arith) ∙ sym e
  option_is part (of-kind tag e) = field-kind option tag ∙ kind-is ∙ sym e
  option_is part (on-rows tag e) = field-list option (λ same. omega arith) tag ∙ list-is ∙ sym e

-- the bytes of a record are its form
form-is : (job : Job) (version option : List ℕ) → Version job version → Option job.option option → encode job ≡ form job version option
unfolding encode
form-is job version option v o =
    rw (
      field-one 1 job.frequency,
      field-one 2 job.steps,
      field-two 3 job.reversion,
      field-four 4 job.volatility,
      version-is job version v,
      quotes-are job job.steps,
      flows-are job job.steps,
      option_is job.option option o,
    )

-- what stands at the front of a memory
front : (out part : List ℕ) → place out 0 part ≡ part ++ drop (length part) out
unfolding place
front out part =
    let e : 0 + length part ≡ length part = omega arith in
    ap (λ (n : ℕ). part ++ drop n out) e

module _ (job : Job) (out : List ℕ) (done : (written job (length out)).number ≡ 0) where
  value-is : (written job (length out)).value ≡ length (encode job)
  value-is = ap (λ (a : Answer). a.value) (whole-answer job out done)

  bytes-are : written_memory job out ≡ encode job ++ drop (length (encode job)) out
  bytes-are = memory-written job out (length (encode job)) (whole-answer job out done) ∙ front out (encode job)

module _ (bytes : List ℕ) (b : Bytes bytes) (accepted : (reading_of bytes).number ≡ 0) where
  encodes : Encodes bytes (reading_of bytes).job
  encodes = (reads bytes b).only accepted

-- a record that is not refused with 1 is read from its bytes
read-from : (job : Job) (room : ℕ) → ((written job room).number ≡ 1 → ⊥) → Bytes (encode job) × (reading_of (encode job) ≡ accepted_reading job)
read-from job room other = ((some-read-as job room other).1, read-encoded (encode job) job (written-encodes job room other))

same : (job : Job) (out : List ℕ) → (written job (length out)).number ≡ 0 →
    reading_of (take (written job (length out)).value (written_memory job out)) ≡ accepted_reading job
same job out done = ap reading_of (bytes-written job out done) ∙ (read-from job (length out) (λ first. omega arith)).1

unread : (job : Job) (room : ℕ) → ((bytes : List ℕ) → Bytes bytes → reading_of bytes ≡ accepted_reading job → ⊥) → written job room ≡ refused 1
unread job room nothing = by-answers (answers job room)
  where
    found : ((written job room).number ≡ 1 → ⊥) → ⊥
    found other = nothing (encode job) (read-from job room other).0 (read-from job room other).1

    by-answers : ((written job room).number ≡ 0) ⊎ ((written job room ≡ refused 1) ⊎ (written job room ≡ refused 6)) → written job room ≡ refused 1
    by-answers (inl done) = absurd (found (λ first. omega arith))
    by-answers (inr (inl refusal)) = refusal
    by-answers (inr (inr six)) =
        let number : (written job room).number ≡ 6 = ap (λ (a : Answer). a.number) six in
        absurd (found (λ first. omega arith))

short : (bytes : List ℕ) (room : ℕ) → Bytes bytes → (reading_of bytes).number ≡ 0 → room < length bytes → written (reading_of bytes).job room ≡ refused 6
short bytes room b accepted few =
    let e = encodes bytes b accepted in
    let long : length (encode (reading_of bytes).job) ≡ length bytes = ap length e.fields in
    written-beyond _ room (job-test _ e.sound) (omega (arith, e.short)) (omega arith)

left : (job : Job) (out : List ℕ) → ((written job (length out)).number ≡ 0 → ⊥) → written_memory job out ≡ out
left job out other = by-answers (answers job (length out))
  where
    by-answers :
        ((written job (length out)).number ≡ 0) ⊎ ((written job (length out) ≡ refused 1) ⊎ (written job (length out) ≡ refused 6)) →
        written_memory job out ≡ out
    by-answers (inl done) = absurd (other done)
    by-answers (inr (inl refusal)) = memory_kept job out 1 (λ absent. omega arith) refusal
    by-answers (inr (inr refusal)) = memory_kept job out 6 (λ absent. omega arith) refusal

alike : (bytes other : List ℕ) → Bytes bytes → Bytes other → (reading_of bytes).number ≡ 0 → reading_of other ≡ reading_of bytes → other ≡ bytes
alike bytes other b c accepted e =
    let accepted-too : (reading_of other).number ≡ 0 = ap (λ (r : Reading). r.number) e ∙ accepted in
    sym (encodes other c accepted-too).fields ∙ ap (λ (r : Reading). encode r.job) e ∙ (encodes bytes b accepted).fields

most : (job : Job) (out : List ℕ) → (written job (length out)).number ≡ 0 → (written job (length out)).value ≤ 4700
most job out done =
    let e = written-encodes job (length out) (λ first. omega arith) in
    omega (arith, value-is job out done, e.short)

pub kept : WriterPromises
kept =
    record {
      form-written = λ job out done version option v o.
          bytes-are job out done
          ∙ ap (λ (part : List ℕ). part ++ drop (length (encode job)) out) (form-is job version option v o)
          ∙ ap (λ (n : ℕ). form job version option ++ drop n out) (sym (value-is job out done));
      counted = λ job out done version option v o. value-is job out done ∙ ap length (form-is job version option v o);
      returns-bytes = λ bytes out b accepted enough. (
        written-after-reading bytes (reading_of bytes) (reads bytes b) accepted out enough,
        bytes-after-reading bytes (reading_of bytes) (reads bytes b) accepted out enough ∙ front out bytes,
      );
      same-record = same;
      none_read = λ job room refusal bytes b e. none-read-as job room refusal bytes (reading_of bytes) (reads bytes b) e;
      none-refused = unread;
      short-refused = short;
      numbers = answers;
      untouched = left;
      distinct = alike;
      at_most = most;
    }
