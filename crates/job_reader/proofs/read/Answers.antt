use native.Mathlib.Omega.{arith}
use Rattle.job_record.proofs.Answers.{passed, failed}
use Rattle.job_record.proofs.ReadLaws.{read-well, read-bad}
use Rattle.job_reader.proofs.read.Goals as goal

clauses-reading-grammar : {A B : Type 0} → A × B → record { reading : A; grammar : B }
clauses-reading-grammar w = record { reading = w.0; grammar = w.1 }

pub returns-then-not-well_formed : goal.returns-then-not-well_formed
returns-then-not-well_formed c = clauses-reading-grammar (read-bad _ (λ i. omega (arith, c.type_inv.bytes i)) _ c.no_job.ensures
    (failed c.well_formed-2.ensures c.if-not-well_formed.true))

pub job_of-requires : goal.job_of-requires
job_of-requires c = passed c.well_formed-2.ensures c.if-not-well_formed.false

pub returns : goal.returns
returns c = clauses-reading-grammar (read-well _ (λ i. omega (arith, c.type_inv.bytes i)) _ c.job_of.ensures
    (passed c.well_formed-2.ensures c.if-not-well_formed.false))
