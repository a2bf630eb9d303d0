use native.Mathlib.Omega.{arith}
use Rattle.price_causes.proofs.CheckLaws.{kind-below, kind-above, expiry-past, strike-above, option-passed}
use Rattle.price_causes.proofs.option_cause.Goals as goal

pub returns-then-kind-lt1 : goal.returns-then-kind-lt1
returns-then-kind-lt1 c = kind-below _ _ _ _ c.if-kind-lt1.true

pub returns-then-kind-gt4 : goal.returns-then-kind-gt4
returns-then-kind-gt4 c = kind-above _ _ _ _ c.if-kind-lt1.false c.if-kind-gt4.true

pub returns-then-steps-expiry : goal.returns-then-steps-expiry
returns-then-steps-expiry c = expiry-past _ _ _ _ c.if-kind-lt1.false c.if-kind-gt4.false (omega (arith, c.if-steps-expiry.true))

pub returns-then-strike-gt-MOST_STRIKE : goal.returns-then-strike-gt-MOST_STRIKE
returns-then-strike-gt-MOST_STRIKE c = strike-above _ _ _ _ c.if-kind-lt1.false c.if-kind-gt4.false c.if-steps-expiry.false c.if-strike-gt-MOST_STRIKE.true

pub returns : goal.returns
returns c = option-passed _ _ _ _ c.if-kind-lt1.false c.if-kind-gt4.false c.if-steps-expiry.false c.if-strike-gt-MOST_STRIKE.false
