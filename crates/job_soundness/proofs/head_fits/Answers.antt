use mathlib.Core.Path.{◌∙◌}
use borrow.Author.Tests.{le-leb, lt-leb}
use Rattle.writer_laws.specs.Sound.{head_fits}
use Rattle.job_soundness.proofs.head_fits.Goals as goal

pub returns-then-frequency-gt-MOST_IN_ONE : goal.returns-then-frequency-gt-MOST_IN_ONE
unfolding head_fits
returns-then-frequency-gt-MOST_IN_ONE c = simp (lt-leb _ _ c.if-frequency-gt-MOST_IN_ONE.true)

pub returns-then-steps-gt-MOST_STEPS : goal.returns-then-steps-gt-MOST_STEPS
unfolding head_fits
returns-then-steps-gt-MOST_STEPS c = simp (le-leb _ _ c.if-frequency-gt-MOST_IN_ONE.false, lt-leb _ _ c.if-steps-gt-MOST_STEPS.true)

pub returns-then-reversion-gt-MOST_IN_TWO : goal.returns-then-reversion-gt-MOST_IN_TWO
unfolding head_fits
returns-then-reversion-gt-MOST_IN_TWO c =
    simp (le-leb _ _ c.if-frequency-gt-MOST_IN_ONE.false, le-leb _ _ c.if-steps-gt-MOST_STEPS.false, lt-leb _ _ c.if-reversion-gt-MOST_IN_TWO.true)

pub returns-then-volatility-gt-MOST_IN_FOUR : goal.returns-then-volatility-gt-MOST_IN_FOUR
unfolding head_fits
returns-then-volatility-gt-MOST_IN_FOUR c =
    simp (
      le-leb _ _ c.if-frequency-gt-MOST_IN_ONE.false,
      le-leb _ _ c.if-steps-gt-MOST_STEPS.false,
      le-leb _ _ c.if-reversion-gt-MOST_IN_TWO.false,
      lt-leb _ _ c.if-volatility-gt-MOST_IN_FOUR.true,
    )

pub returns : goal.returns
unfolding head_fits
returns c =
    c.version_fits.ensures
    ∙ simp (
      le-leb _ _ c.if-frequency-gt-MOST_IN_ONE.false,
      le-leb _ _ c.if-steps-gt-MOST_STEPS.false,
      le-leb _ _ c.if-reversion-gt-MOST_IN_TWO.false,
      le-leb _ _ c.if-volatility-gt-MOST_IN_FOUR.false,
    )
