-- Laws of the answer to a sheet.
-- Assumes nothing.
use mathlib.Core.Path.{◌≡◌, refl, sym, ap, ◌∙◌, subst}
use mathlib.Core.List.{List}
use Prim.Native.Nat.{ℕ, ◌-◌}
use native.Mathlib.Omega.{arith}
use borrow.Author.Tests.{eq-eqb, ne_eqb}
use lib.ListN.{length}
use Rattle.arithmetic.proofs.Numbers.{by_equal}
use Rattle.job_record.specs.declared.Reading.{Reading}
use Rattle.job_record.specs.Reader.{reading_of}
use Rattle.text_laws.specs.Put.{with_text}
use Rattle.text_laws.specs.inside.Put.{Put}
use Rattle.sheet_laws.specs.WholeJob.{job_number, job_text, sheet_number, sheet_text}
use Rattle.sheet_laws.proofs.SheetLaws.{memory-refused, memory-put, number-accepted}
use Rattle.record_sheet.specs.declared.Written.{Written}
use Rattle.record_sheet.specs.Answers.{refused_sheet, answer_of}

-- a sheet or a refusal, and the room afterwards
abbrev pub Made : ℕ → List ℕ → List ℕ → Written → List ℕ → Type 0
Made number text out answer after = (answer ≡ answer_of number text) × (after ≡ with_text number out (length out) text)

module _ (number : ℕ) (text : List ℕ) where
  answer-refused : (number ≡ 0 → ⊥) → refused_sheet number ≡ answer_of number text
  unfolding answer_of
  answer-refused nz = rw (ne_eqb number 0 nz)

  answer-put : (k : ℕ) → number ≡ 0 → k ≡ length text → record { number = 0; size = k } ≡ answer_of number text
  unfolding answer_of
  answer-put k z e = rw (eq-eqb number 0 z, e)

  -- the number of a refusal, as the code found it
  pub refused-by : (found : ℕ) (out : List ℕ) (answer : Written) → answer ≡ refused_sheet found → found ≡ number → (found ≡ 0 → ⊥) → Made number text out
      answer out
  refused-by found out answer ea e nz =
      let some : number ≡ 0 → ⊥ = λ z. nz (e ∙ z) in
      (ea ∙ ap refused_sheet e ∙ answer-refused some, memory-refused number text out some)

  pub sheet-put : (out : List ℕ) (start : ℕ) (after : List ℕ) → number ≡ 0 → Put out (length out) text start after →
      Made number text out (record { number = 0; size = length out - start }) after
  sheet-put out start after z p = (answer-put (length out - start) z (omega (arith, p.place)), memory-put number text out start after z p)

  module _ (answer : Written) (e : answer ≡ answer_of number text) where
    pub answer-number : answer.number ≡ number
    answer-number =
        ap (λ (w : Written). w.number) e
        ∙ by_equal number 0
        (λ z. ap (λ (w : Written). w.number) (sym (answer-put (length text) z refl)) ∙ sym z)
        (λ nz. ap (λ (w : Written). w.number) (sym (answer-refused nz)))

    pub answer-size : answer.number ≡ 0 → answer.size ≡ length text
    answer-size z = ap (λ (w : Written). w.size) (e ∙ sym (answer-put (length text) (sym answer-number ∙ z) refl))

-- the sheet of the record that was read is the job's
pub read_made : (bytes out : List ℕ) (q : Reading) (answer : Written) (after : List ℕ) → q ≡ reading_of bytes → q.number ≡ 0 →
    Made (job_number q.job (length out)) (job_text q.job) out answer after → Made (sheet_number bytes (length out)) (sheet_text bytes) out answer after
read_made bytes out q answer after e z made =
    subst (λ (x : ℕ). Made x (sheet_text bytes) out answer after) (number-accepted bytes (length out) q e z)
    (subst (λ (x : Reading). Made (job_number x.job (length out)) (job_text x.job) out answer after) e made)
