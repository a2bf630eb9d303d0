use mathlib.Core.Path.{◌≡◌, refl}
use lib.ListN.{length}
use borrow.Author.Rules.{rules}
use Rattle.arithmetic.proofs.RefusalLaws.{refusal-some}
use Rattle.sheet_laws.specs.WholeJob.{sheet_number, sheet_text}
use Rattle.sheet_laws.proofs.SheetLaws as laws
use Rattle.record_sheet.specs.Answers.{written_of}
use Rattle.record_sheet.proofs.AnswerLaws as answers
use Rattle.job_sheet.proofs.printed.Goals as goal
use Rattle.job_sheet.proofs.printed.Goals.{After-sheet-written}

number_is : (c : After-sheet-written) →
    let a = c.args in
    (written_of c.sheet-written.result).number ≡ sheet_number a.job.now (length a.out.now)
number_is c = answers.answer-number _ _ (written_of c.sheet-written.result) c.sheet-written.ensures.answer

size_is : (c : After-sheet-written) → (written_of c.sheet-written.result).number ≡ 0 →
    (written_of c.sheet-written.result).size ≡ length (sheet_text c.args.job.now)
size_is c = answers.answer-size _ _ (written_of c.sheet-written.result) c.sheet-written.ensures.answer

pub returns-in-Err : goal.returns-in-Err
returns-in-Err c =
    let a = c.args in
    let s = (goal.at.returns-in-Err c).After-sheet-written in
    let printed =
    laws.refusal-printed a.job.now a.out.now _ _ _ (rw c.in-Err.is at (number_is s)) (rw c.in-Err.is at (size_is s)) c.sheet-written.ensures.memory
    (refusal-some _) _ _ (rw c.number.ensures at c.refused_line.ensures.value, rw c.number.ensures at c.refused_line.ensures.out_after) in
    record { answer = printed.0; within = laws.start-within _ _ _ _ printed.0; memory = printed.1 }

pub overflow_sub-result : goal.overflow_sub-result
overflow_sub-result c =
    let a = c.args in
    let s = (goal.at.overflow_sub-result c).After-sheet-written in
    laws.size-within a.job.now a.out.now _ _ _ (rw c.in-Ok.is at (number_is s)) (rw c.in-Ok.is at (size_is s)) c.sheet-written.ensures.memory refl
    (search rules)

pub returns-in-Ok : goal.returns-in-Ok
returns-in-Ok c =
    let a = c.args in
    let s = (goal.at.returns-in-Ok c).After-sheet-written in
    let printed =
    laws.sheet-printed a.job.now a.out.now _ _ _ (rw c.in-Ok.is at (number_is s)) (rw c.in-Ok.is at (size_is s)) c.sheet-written.ensures.memory refl
    (search rules) in
    record { answer = printed.0; within = laws.start-within _ _ _ _ printed.0; memory = printed.1 }
