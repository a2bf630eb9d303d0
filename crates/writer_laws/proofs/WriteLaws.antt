-- The answers of writing, by the test that fails first.
-- Assumes nothing.
use Prim.Native.Nat.{ℕ, ◌≤◌, ◌<◌}
use mathlib.Core.Bool.{true, false, ◌&&◌}
use mathlib.Core.List.{List}
use mathlib.Core.Path.{◌≡◌, refl, sym, ap, ◌∙◌}
use borrow.Author.Tests.{le-leb, lt-leb, ne_eqb}
use lib.ListN.{length}
use lib.Dec.{leb}
use Rattle.arithmetic.specs.Row.{place}
use Rattle.arithmetic.specs.Answers.{refused, answered}
use Rattle.arithmetic.specs.declared.Answer.{Answer}
use Rattle.job_record.specs.Form.{most_bytes}
use Rattle.job_record.specs.Grammar.{encode}
use Rattle.job_record.specs.declared.Job.{Job}
use Rattle.writer_laws.specs.Sound.{is_sound}
use Rattle.writer_laws.specs.Writer.{writable, written, written_memory}

module _ (job : Job) (room : ℕ) where
  -- which records are written
  writable-is : writable job ≡ (is_sound job && leb (length (encode job)) most_bytes)
  unfolding writable
  writable-is = refl

  pub written-unsound : is_sound job ≡ false → written job room ≡ refused 1
  unfolding written writable
  written-unsound bad = rw bad

  module _ (sound : is_sound job ≡ true) where
    pub written-long : most_bytes < length (encode job) → written job room ≡ refused 1
    unfolding written writable
    written-long long = rw (sound, lt-leb (length (encode job)) most_bytes long)

    module _ (short : length (encode job) ≤ most_bytes) where
      pub written-beyond : room < length (encode job) → written job room ≡ refused 6
      unfolding written writable
      written-beyond few = rw (sound, le-leb (length (encode job)) most_bytes short, lt-leb (length (encode job)) room few)

      pub written-whole : length (encode job) ≤ room → written job room ≡ answered (length (encode job))
      unfolding written writable
      written-whole enough = rw (sound, le-leb (length (encode job)) most_bytes short, le-leb (length (encode job)) room enough)

module _ (job : Job) (out : List ℕ) where
  pub memory_kept : (cause : ℕ) → (cause ≡ 0 → ⊥) → written job (length out) ≡ refused cause → written_memory job out ≡ out
  unfolding written_memory
  memory_kept cause some w = rw (w, ne_eqb cause 0 some)

  pub memory-written : (size : ℕ) → written job (length out) ≡ answered size → written_memory job out ≡ place out 0 (encode job)
  unfolding written_memory
  memory-written size w = rw w

  -- what the code answers and leaves
  pub refused-with :
      (r : Answer) (cause : ℕ) → (cause ≡ 0 → ⊥) → r ≡ refused cause → written job (length out) ≡ refused cause
      → (r ≡ written job (length out)) × (out ≡ written_memory job out)
  refused-with r cause some e w = (e ∙ sym w, sym (memory_kept cause some w))

  pub wrote :
      (l : List ℕ) (size : ℕ) → size ≡ length (encode job) → l ≡ place out 0 (encode job)
      → written job (length out) ≡ answered (length (encode job)) → (answered size ≡ written job (length out)) × (l ≡ written_memory job out)
  wrote l size same e w = (ap answered same ∙ sym w, e ∙ sym (memory-written (length (encode job)) w))
