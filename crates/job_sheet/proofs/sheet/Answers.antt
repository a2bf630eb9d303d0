use mathlib.Core.Path.{◌≡◌, refl, sym, ◌∙◌}
use Prim.Native.Nat.{ℕ}
use mathlib.Core.List.{List}
use lib.ListN.{length}
use Rattle.arithmetic.proofs.Numbers.{by-test}
use Rattle.job_record.specs.declared.Reading.{Reading}
use Rattle.job_record.specs.Form.{well_formed}
use Rattle.job_record.specs.Reader.{reading_of}
use Rattle.sheet_laws.proofs.SheetLaws as laws
use Rattle.record_sheet.proofs.AnswerLaws as answers
use Rattle.job_sheet.proofs.sheet.Goals as goal

clauses-answer-memory : {A B : Type 0} → A × B → record { answer : A; memory : B }
clauses-answer-memory w = record { answer = w.0; memory = w.1 }

-- bytes that are no job's are refused with 1
one : (bytes : List ℕ) → ((reading_of bytes).number ≡ 0 → ⊥) → 1 ≡ (reading_of bytes).number
unfolding reading_of
one bytes = by-test (well_formed bytes) (λ (r : Reading). (r.number ≡ 0 → ⊥) → 1 ≡ r.number) _ _ (λ t n. absurd (n refl)) (λ t n. refl)

pub returns-then-reading-ne0 : goal.returns-then-reading-ne0
returns-then-reading-ne0 c =
    let a = c.args in
    let read = c.read-reading in
    let refusing = c.if-reading-ne0.true in
    let number = laws.number-refused a.job.now (length a.out.now) read.result read.ensures.reading refusing in
    let malformed : 1 ≡ read.result.number = rw read.ensures.reading (one a.job.now (rw read.ensures.reading at refusing)) in
    clauses-answer-memory (answers.refused-by _ _ _ a.out.now _ refl (malformed ∙ number) (λ z. refusing (sym malformed ∙ z)))

pub returns : goal.returns
returns c =
    let read = c.read-reading in
    let if1 = c.if-reading-ne0 in
    let sheet-of-record = c.sheet_of_record in
    let a = c.args in
    clauses-answer-memory
    (answers.read_made a.job.now a.out.now read.result _ _ read.ensures.reading if1.false (sheet-of-record.ensures.answer, sheet-of-record.ensures.memory))
