use borrow.Author.Tests.{le-leb, lt-leb}
use Rattle.writer_laws.specs.Sound.{option_fits}
use Rattle.job_soundness.proofs.option_fits.Goals as goal

pub returns-then-kind-gt-MOST_IN_ONE : goal.returns-then-kind-gt-MOST_IN_ONE
unfolding option_fits
returns-then-kind-gt-MOST_IN_ONE c = simp (lt-leb _ _ c.if-kind-gt-MOST_IN_ONE.true)

pub returns-then-expiry-gt-MOST_IN_ONE : goal.returns-then-expiry-gt-MOST_IN_ONE
unfolding option_fits
returns-then-expiry-gt-MOST_IN_ONE c = simp (le-leb _ _ c.if-kind-gt-MOST_IN_ONE.false, lt-leb _ _ c.if-expiry-gt-MOST_IN_ONE.true)

pub returns-then-strike-gt-MOST_IN_FOUR : goal.returns-then-strike-gt-MOST_IN_FOUR
unfolding option_fits
returns-then-strike-gt-MOST_IN_FOUR c =
    simp (le-leb _ _ c.if-kind-gt-MOST_IN_ONE.false, le-leb _ _ c.if-expiry-gt-MOST_IN_ONE.false, lt-leb _ _ c.if-strike-gt-MOST_IN_FOUR.true)

pub returns : goal.returns
unfolding option_fits
returns c = simp (le-leb _ _ c.if-kind-gt-MOST_IN_ONE.false, le-leb _ _ c.if-expiry-gt-MOST_IN_ONE.false, le-leb _ _ c.if-strike-gt-MOST_IN_FOUR.false)
