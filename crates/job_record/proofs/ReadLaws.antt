-- Reading by the grammar, and what callers use of a job that was read.
-- Assumes nothing.
use Prim.Native.Nat.{ℕ, ◌^◌, ◌≤◌}
use native.Mathlib.Nat.{not-suc-le-zero}
use native.Mathlib.Omega.{arith}
use mathlib.Core.Bool.{Bool, true, false}
use mathlib.Core.List.{List}
use mathlib.Core.Path.{◌≡◌, refl, sym, ap, ◌∙◌}
use lib.ListN.{length, take, length-take}
use Rattle.arithmetic.proofs.Numbers.{by_equal}
use Rattle.job_record.specs.Bytes.{Bytes}
use Rattle.job_record.specs.Form.{most_job_steps, well_formed}
use Rattle.job_record.specs.Reader.{job_of, no_job, accepted_reading, malformed, reading_of}
use Rattle.job_record.specs.Grammar.{encode, Column, SoundJob, Encodes, ReadsAs}
use Rattle.job_record.specs.declared.Job.{Job}
use Rattle.job_record.specs.declared.Reading.{Reading}
use Rattle.job_record.proofs.Columns.{zeros-column}
use Rattle.job_record.proofs.Forms.{well-short}
use Rattle.job_record.proofs.Written.{written, no-option-sound, read-sound}
use Rattle.job_record.proofs.Reread.{encode-formed, encode-read}

-- number 1 with a record
abbrev refusal : Job → Reading
refusal job = record { number = 1; job = job }

module _ (s : List ℕ) where
  pub reading-well : well_formed s ≡ true → reading_of s ≡ accepted_reading (job_of s)
  unfolding reading_of
  reading-well h = rw h

  pub reading-bad : well_formed s ≡ false → reading_of s ≡ malformed
  unfolding reading_of
  reading-bad h = rw h

-- a record's bytes are accepted, and give that record
encoded-by : (s : List ℕ) (job : Job) → Encodes s job → encode job ≡ s → reading_of s ≡ accepted_reading job
encoded-by s job e same =
    let formed : well_formed s ≡ true = rw same at (encode-formed job e.sound (rw (← same) at e.short)) in
    let read : job_of s ≡ job = rw same at (encode-read job e.sound) in
    reading-well s formed ∙ ap accepted_reading read

pub read-encoded : (s : List ℕ) (job : Job) → Encodes s job → reading_of s ≡ accepted_reading job
read-encoded s job e = encoded-by s job e e.fields

-- what is accepted is the bytes of the record that is given
pub read-encodes : (s : List ℕ) → Bytes s → well_formed s ≡ true → Encodes s (job_of s)
read-encodes s b h = record { sound = read-sound s b h; fields = written s b h; short = well-short s h }

-- zeros are a sound record
zeros-sound : SoundJob no_job
unfolding no_job
zeros-sound =
    record {
      frequency = omega arith;
      steps = omega arith;
      reversion = omega arith;
      volatility = omega arith;
      version = refl;
      kinds = zeros-column most_job_steps 256 (omega arith);
      kind = λ k below. absurd (not-suc-le-zero below);
      figures = zeros-column most_job_steps (256 ^ 8) (omega arith);
      flows = zeros-column most_job_steps (256 ^ 4) (omega arith);
      option = no-option-sound;
    }

module _ (s : List ℕ) (b : Bytes s) where
  reads-by : (t : Bool) → well_formed s ≡ t → ReadsAs s (reading_of s)
  reads-by true h =
      record {
        reads = read-encoded s;
        only = λ e. rw (reading-well s h) (read-encodes s b h);
        refuses = λ other. absurd (other (rw (reading-well s h)));
        sound = rw (reading-well s h) (read-sound s b h);
      }
  reads-by false h =
      record {
        reads = read-encoded s;
        only = λ e.
            let no : ◌≡◌ {A = ℕ} 1 0 = rw (reading-bad s h) at e in
            let none : ⊥ = omega arith in
            absurd none;
        refuses = λ other. reading-bad s h;
        sound = rw (reading-bad s h) zeros-sound;
      }

  -- the theorem: accepted exactly where the bytes are a record's, and then with that record
  pub reads : ReadsAs s (reading_of s)
  reads = reads-by (well_formed s) refl

  -- the two answers of the code
  pub read-well : (job : Job) → job ≡ job_of s → well_formed s ≡ true → (accepted_reading job ≡ reading_of s) × ReadsAs s (accepted_reading job)
  read-well job e h =
      let same : accepted_reading job ≡ reading_of s = ap accepted_reading e ∙ sym (reading-well s h) in
      (same, rw same reads)

  pub read-bad : (job : Job) → job ≡ no_job → well_formed s ≡ false → (refusal job ≡ reading_of s) × ReadsAs s (refusal job)
  read-bad job e h =
      let same : refusal job ≡ reading_of s = ap refusal e ∙ sym (reading-bad s h) in
      (same, rw same reads)

-- the grammar alone decides what is read
pub read-once : (s : List ℕ) (r q : Reading) → ReadsAs s r → ReadsAs s q → r ≡ q
read-once s r q a c =
    by_equal r.number 0 (λ e. a.reads r.job (a.only e) ∙ sym (c.reads r.job (a.only e)))
    (λ other.
    by_equal q.number 0 (λ e. a.reads q.job (c.only e) ∙ sym (c.reads q.job (c.only e)))
    (λ another. a.refuses other ∙ sym (c.refuses another)))

-- two records with the same bytes are one
pub encode-once : (job other : Job) → SoundJob job → SoundJob other → encode job ≡ encode other → job ≡ other
encode-once job other a c same = sym (encode-read job a) ∙ ap job_of same ∙ encode-read other c

-- the part of a column that a caller lends: its n entries
module _ (places : ℕ) (l : List ℕ) (n bound : ℕ) (column : Column places l n bound) (few : n ≤ places) where
  pub lent_length : length (take n l) ≡ n
  lent_length = simp length-take (omega (arith, column.size))
