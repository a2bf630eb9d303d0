use native.Mathlib.Omega.{arith}
use mathlib.Core.Bool.{true}
use mathlib.Core.Path.{◌≡◌, ◌∙◌}
use lib.ListN.{length}
use Rattle.job_record.specs.Form.{most_dates}
use Rattle.job_record.proofs.Answers.{passed, failed}
use Rattle.writer_laws.proofs.SoundTests.{fits, column-here, dates-few, option-misfits, option-alien, option-by-dates}
use borrow.Author.Rules.{rules}
use Rattle.job_soundness.proofs.is_sound_option.Goals as goal
use Rattle.job_soundness.proofs.is_sound_option.Goals.{Else-not-option_fits, Start}

dates-long : (c : Start) → length c.args.option.dates ≡ most_dates
dates-long c = search rules

pub returns-then-not-option_fits : goal.returns-then-not-option_fits
returns-then-not-option_fits c = option-misfits _ (failed c.option_fits.ensures c.if-not-option_fits.true)

-- the numbers of the option fit
fitting : (c : Else-not-option_fits) → fits c.args.option ≡ true
fitting c = passed c.option_fits.ensures c.if-not-option_fits.false

pub returns-then-not-option_belongs : goal.returns-then-not-option_belongs
returns-then-not-option_belongs c =
    option-alien _ (fitting (goal.at.returns-then-not-option_belongs c).Else-not-option_fits) (failed c.option_belongs.ensures c.if-not-option_belongs.true)

pub is_byte_column-requires : goal.is_byte_column-requires
is_byte_column-requires c =
    omega (arith, dates-long (goal.at.is_byte_column-requires c).Start, dates-few _ _ _ _ (fitting (goal.at.is_byte_column-requires c).Else-not-option_fits))

pub returns : goal.returns
returns c =
    column-here _ _ _ _ (dates-long (goal.at.returns c).Start) c.is_byte_column.ensures
    ∙ option-by-dates _ (fitting (goal.at.returns c).Else-not-option_fits) (passed c.option_belongs.ensures c.if-not-option_belongs.false)
