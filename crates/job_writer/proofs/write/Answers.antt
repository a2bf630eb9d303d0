use native.Mathlib.Omega.{arith}
use Rattle.job_record.proofs.Answers.{passed, failed}
use Rattle.writer_laws.proofs.SoundTests.{sound-job}
use Rattle.writer_laws.proofs.SizeLaws.{size_is}
use Rattle.writer_laws.proofs.WriteLaws.{written-unsound, written-long, written-beyond, written-whole, refused-with, wrote}
use Rattle.job_writer.proofs.write.Goals as goal

clauses-answer-memory : {A B : Type 0} → A × B → record { answer : A; memory : B }
clauses-answer-memory w = record { answer = w.0; memory = w.1 }

pub returns-then-not-is_sound : goal.returns-then-not-is_sound
returns-then-not-is_sound c =
    clauses-answer-memory
    (refused-with _ _ _ 1 (λ none. omega arith) c.refusal.ensures (written-unsound _ _ (failed c.is_sound.ensures c.if-not-is_sound.true)))

pub job_size-size-requires : goal.job_size-size-requires
job_size-size-requires c =
    let sound = sound-job c.args.job (passed c.is_sound.ensures c.if-not-is_sound.false) in
    omega (arith, sound.steps, sound.option.few)

pub returns-then-size-gt-MOST_BYTES : goal.returns-then-size-gt-MOST_BYTES
returns-then-size-gt-MOST_BYTES c =
    let size = size_is c.args.job _ c.job_size-size.ensures (sound-job c.args.job (passed c.is_sound.ensures c.if-not-is_sound.false)).option in
    clauses-answer-memory (refused-with _ _ _ 1 (λ none. omega arith) c.refusal-then-size-gt-MOST_BYTES.ensures
    (written-long _ _ (passed c.is_sound.ensures c.if-not-is_sound.false) (omega (arith, size, c.if-size-gt-MOST_BYTES.true))))

pub returns-then-out-size : goal.returns-then-out-size
returns-then-out-size c =
    let size = size_is c.args.job _ c.job_size-size.ensures (sound-job c.args.job (passed c.is_sound.ensures c.if-not-is_sound.false)).option in
    clauses-answer-memory (refused-with _ _ _ 6 (λ none. omega arith) c.refusal-then-out-size.ensures
    (written-beyond _ _ (passed c.is_sound.ensures c.if-not-is_sound.false) (omega (arith, size, c.if-size-gt-MOST_BYTES.false))
    (omega (arith, size, c.if-out-size.true))))

pub put_job-requires : goal.put_job-requires
put_job-requires c =
    let size = size_is c.args.job _ c.job_size-size.ensures (sound-job c.args.job (passed c.is_sound.ensures c.if-not-is_sound.false)).option in
    (sound-job c.args.job (passed c.is_sound.ensures c.if-not-is_sound.false), omega (arith, size, c.if-out-size.false))

pub returns : goal.returns
returns c =
    let size = size_is c.args.job _ c.job_size-size.ensures (sound-job c.args.job (passed c.is_sound.ensures c.if-not-is_sound.false)).option in
    clauses-answer-memory (wrote _ _ _ _ size c.put_job.ensures
    (written-whole _ _ (passed c.is_sound.ensures c.if-not-is_sound.false) (omega (arith, size, c.if-size-gt-MOST_BYTES.false))
    (omega (arith, size, c.if-out-size.false))))
