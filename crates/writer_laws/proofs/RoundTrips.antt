-- Reading and writing are inverse (document 02, writing jobs).
-- Assumes nothing.
use Prim.Native.Nat.{ℕ, ◌≤◌}
use native.Mathlib.Omega.{arith}
use mathlib.Core.Bool.{Bool, true, false}
use mathlib.Core.List.{List}
use mathlib.Core.Logic.{◌⊎◌, inl, inr}
use mathlib.Core.Path.{◌≡◌, refl, sym, ap, subst, ◌∙◌}
use lib.ListN.{length, take}
use Rattle.arithmetic.specs.Row.{place}
use Rattle.arithmetic.specs.Answers.{refused, answered}
use Rattle.arithmetic.specs.declared.Answer.{Answer}
use Rattle.arithmetic.proofs.Numbers.{by_order}
use Rattle.arithmetic.proofs.PlaceLaws.{place-front}
use Rattle.job_record.specs.Bytes.{Bytes}
use Rattle.job_record.specs.Form.{most_bytes}
use Rattle.job_record.specs.Reader.{accepted_reading}
use Rattle.job_record.specs.Grammar.{encode, Encodes, ReadsAs}
use Rattle.job_record.specs.declared.Job.{Job}
use Rattle.job_record.specs.declared.Reading.{Reading}
use Rattle.job_record.proofs.ReadLaws.{reads, read-encoded}
use Rattle.writer_laws.specs.Sound.{is_sound}
use Rattle.writer_laws.specs.Writer.{written, written_memory}
use Rattle.writer_laws.proofs.BytesLaws.{encode-bytes}
use Rattle.writer_laws.proofs.SoundTests.{sound-job, job-test}
use Rattle.writer_laws.proofs.WriteLaws.{written-unsound, written-long, written-beyond, written-whole, memory-written}

-- bytes that a record is read from can be written from it
module _ (s : List ℕ) (job : Job) (e : Encodes s job) where
  encodes-written : (room : ℕ) → length s ≤ room → written job room ≡ answered (length s)
  encodes-written room enough =
      let long : length (encode job) ≡ length s = ap length e.fields in
      written-whole job room (job-test job e.sound) (omega (arith, e.short)) (omega arith) ∙ ap answered long

  encodes-never-one : (room : ℕ) → (written job room).number ≡ 1 → ⊥
  encodes-never-one room one =
      let long : length (encode job) ≡ length s = ap length e.fields in
      by_order (length s) room
      (λ enough.
      let zero : (written job room).number ≡ 0 = ap (λ (a : Answer). a.number) (encodes-written room enough) in
      omega arith)
      (λ few.
      let six : (written job room).number ≡ 6 =
      ap (λ (a : Answer). a.number) (written-beyond job room (job-test job e.sound) (omega (arith, e.short)) (omega arith)) in
      omega arith)

-- a job that is read, and then written into enough room, gives its own bytes, and what stood behind them stays
module _ (s : List ℕ) (r : Reading) (h : ReadsAs s r) (accepted : r.number ≡ 0) (out : List ℕ) (enough : length s ≤ length out) where
  pub written-after-reading : written r.job (length out) ≡ answered (length s)
  written-after-reading = encodes-written s r.job (h.only accepted) (length out) enough

  pub bytes-after-reading : written_memory r.job out ≡ place out 0 s
  bytes-after-reading = memory-written r.job out (length s) written-after-reading ∙ ap (place out 0) (h.only accepted).fields

-- the answer of writing, by cases
module _ (job : Job) (room : ℕ) where
  by-sound : (t : Bool) → is_sound job ≡ t → ((written job room).number ≡ 1 → ⊥) → Encodes (encode job) job
  by-sound true sound other =
      by_order (length (encode job)) most_bytes (λ short. record { sound = sound-job job sound; fields = refl; short = short })
      (λ long. absurd (other (ap (λ (a : Answer). a.number) (written-long job room sound long))))
  by-sound false unsound other = absurd (other (ap (λ (a : Answer). a.number) (written-unsound job room unsound)))

  -- a record that is not refused with 1 is a job's
  pub written-encodes : ((written job room).number ≡ 1 → ⊥) → Encodes (encode job) job
  written-encodes = by-sound (is_sound job) refl

  -- 0, 1 or 6
  answers_by :
      (t : Bool) → is_sound job ≡ t → ((written job room).number ≡ 0) ⊎ ((written job room ≡ refused 1) ⊎ (written job room ≡ refused 6))
  answers_by true sound =
      by_order (length (encode job)) most_bytes
      (λ short.
      by_order (length (encode job)) room (λ enough. inl (ap (λ (a : Answer). a.number) (written-whole job room sound short enough)))
      (λ few. inr (inr (written-beyond job room sound short few))))
      (λ long. inr (inl (written-long job room sound long)))
  answers_by false unsound = inr (inl (written-unsound job room unsound))

  pub answers : ((written job room).number ≡ 0) ⊎ ((written job room ≡ refused 1) ⊎ (written job room ≡ refused 6))
  answers = answers_by (is_sound job) refl

  -- 1 is given exactly where no bytes are read as the record
  pub none-read-as : (written job room).number ≡ 1 → (s : List ℕ) (r : Reading) → ReadsAs s r → r ≡ accepted_reading job → ⊥
  none-read-as one s r h e =
      let accepted : r.number ≡ 0 = ap (λ (x : Reading). x.number) e in
      encodes-never-one s job (subst (λ (x : Reading). Encodes s x.job) e (h.only accepted)) room one

  pub some-read-as : ((written job room).number ≡ 1 → ⊥) → ReadsAs (encode job) (accepted_reading job) × Bytes (encode job)
  some-read-as other =
      let e = written-encodes other in
      let b = encode-bytes job e.sound in
      (rw (read-encoded (encode job) job e) at (reads (encode job) b), b)

-- a record that is written, and then read, is the same record
module _ (job : Job) (out : List ℕ) (done : (written job (length out)).number ≡ 0) where
  not-one : (written job (length out)).number ≡ 1 → ⊥
  not-one one = omega arith

  pub whole-answer : written job (length out) ≡ answered (length (encode job))
  whole-answer =
      let e = written-encodes job (length out) not-one in
      by_order (length (encode job)) (length out) (λ enough. encodes-written (encode job) job e (length out) enough)
      (λ few.
      let six : (written job (length out)).number ≡ 6 =
      ap (λ (a : Answer). a.number) (written-beyond job (length out) (job-test job e.sound) e.short few) in
      let none : ⊥ = omega arith in
      absurd none)

  -- no more than the memory has room for
  pub written-within : (written job (length out)).value ≤ length out
  written-within =
      let e = written-encodes job (length out) not-one in
      by_order (length (encode job)) (length out) (λ enough. rw whole-answer enough)
      (λ few.
      let six : (written job (length out)).number ≡ 6 =
      ap (λ (a : Answer). a.number) (written-beyond job (length out) (job-test job e.sound) e.short few) in
      let none : ⊥ = omega arith in
      absurd none)

  pub bytes-written : take (written job (length out)).value (written_memory job out) ≡ encode job
  bytes-written =
      rw (whole-answer, memory-written job out (length (encode job)) whole-answer)
      (place-front out (encode job) (length (encode job)) refl)

  pub read-after-writing : (r : Reading) → ReadsAs (take (written job (length out)).value (written_memory job out)) r → r ≡ accepted_reading job
  read-after-writing r h =
      let same : ReadsAs (encode job) r = rw bytes-written at h in
      same.reads job (written-encodes job (length out) not-one)

-- what a caller may lend of its memory, from the answer as the code has it
pub answered-within :
    (job : Job) (out after : List ℕ) (r : Answer) → r ≡ written job (length out) → r.number ≡ 0 → length after ≡ length out → r.value ≤ length after
answered-within job out after r e z same =
    let done : (written job (length out)).number ≡ 0 = ap (λ (a : Answer). a.number) (sym e) ∙ z in
    omega (arith, ap (λ (a : Answer). a.value) e, written-within job out done)
