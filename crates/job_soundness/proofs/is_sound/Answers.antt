use mathlib.Core.Bool.{true}
use mathlib.Core.Path.{◌≡◌, ◌∙◌}
use lib.ListN.{length}
use Rattle.job_record.specs.Form.{most_job_steps}
use Rattle.job_record.proofs.Answers.{passed, failed}
use Rattle.writer_laws.proofs.SoundTests.{head, steps-few, job-misfits, job-columns, job-by-option}
use borrow.Author.Rules.{rules}
use Rattle.job_soundness.proofs.is_sound.Goals as goal
use Rattle.job_soundness.proofs.is_sound.Goals.{Else-not-head_fits, Start}

kinds-long : (c : Start) → length c.args.job.kinds ≡ most_job_steps
kinds-long c = search rules

figures-long : (c : Start) → length c.args.job.figures ≡ most_job_steps
figures-long c = search rules

flows_long : (c : Start) → length c.args.job.flows ≡ most_job_steps
flows_long c = search rules

pub returns-then-not-head_fits : goal.returns-then-not-head_fits
returns-then-not-head_fits c = job-misfits _ (failed c.head_fits.ensures c.if-not-head_fits.true)

-- the numbers of the head fit
fitting : (c : Else-not-head_fits) → head c.args.job ≡ true
fitting c = passed c.head_fits.ensures c.if-not-head_fits.false

pub are_columns-requires : goal.are_columns-requires
are_columns-requires c = (
  steps-few _ _ _ _ (fitting (goal.at.are_columns-requires c).Else-not-head_fits),
  kinds-long (goal.at.are_columns-requires c).Start,
  figures-long (goal.at.are_columns-requires c).Start,
  flows_long (goal.at.are_columns-requires c).Start,
)

pub returns-then-not-are_columns : goal.returns-then-not-are_columns
returns-then-not-are_columns c =
    job-columns _ (fitting (goal.at.returns-then-not-are_columns c).Else-not-head_fits) (failed c.are_columns.ensures c.if-not-are_columns.true)

pub returns : goal.returns
returns c =
    c.is_sound_option.ensures ∙ job-by-option _ (fitting (goal.at.returns c).Else-not-head_fits) (passed c.are_columns.ensures c.if-not-are_columns.false)
