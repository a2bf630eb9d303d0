use Rattle.price_causes.proofs.CheckLaws.{side-below, side-above, terms-above, terms-passed}
use Rattle.price_causes.proofs.terms_cause.Goals as goal

pub returns-then-side-lt1 : goal.returns-then-side-lt1
returns-then-side-lt1 c = side-below _ _ c.if-side-lt1.true

pub returns-then-side-gt2 : goal.returns-then-side-gt2
returns-then-side-gt2 c = side-above _ _ c.if-side-lt1.false c.if-side-gt2.true

pub returns-then-strike-gt-MOST_STRIKE : goal.returns-then-strike-gt-MOST_STRIKE
returns-then-strike-gt-MOST_STRIKE c = terms-above _ _ c.if-side-lt1.false c.if-side-gt2.false c.if-strike-gt-MOST_STRIKE.true

pub returns : goal.returns
returns c = terms-passed _ _ c.if-side-lt1.false c.if-side-gt2.false c.if-strike-gt-MOST_STRIKE.false
