use mathlib.Core.Bool.{and-false}
use borrow.Author.Tests.{le-leb, lt-leb}
use Rattle.bands.specs.Bands.{sound}
use Rattle.bands.proofs.is_sound.Goals as goal

pub returns-then-first-lt1 : goal.returns-then-first-lt1
unfolding sound
returns-then-first-lt1 c = simp (lt-leb _ _ c.if-first-lt1.true)

pub returns-then-last-first : goal.returns-then-last-first
unfolding sound
returns-then-last-first c = simp (lt-leb _ _ c.if-last-first.true, and-false)

pub returns-then-last-gt-LAST_ROW : goal.returns-then-last-gt-LAST_ROW
unfolding sound
returns-then-last-gt-LAST_ROW c = simp (lt-leb _ _ c.if-last-gt-LAST_ROW.true, and-false)

pub returns-then-highest-lowest : goal.returns-then-highest-lowest
unfolding sound
returns-then-highest-lowest c = simp (lt-leb _ _ c.if-highest-lowest.true, and-false)

pub returns-then-highest-gt-VALUE_LIMIT : goal.returns-then-highest-gt-VALUE_LIMIT
unfolding sound
returns-then-highest-gt-VALUE_LIMIT c = simp (lt-leb _ _ c.if-highest-gt-VALUE_LIMIT.true, and-false)

pub returns-then-haircut-gt-MOST_HAIRCUT : goal.returns-then-haircut-gt-MOST_HAIRCUT
unfolding sound
returns-then-haircut-gt-MOST_HAIRCUT c = simp (lt-leb _ _ c.if-haircut-gt-MOST_HAIRCUT.true, and-false)

pub returns : goal.returns
unfolding sound
returns c =
    let if4 = c.if-highest-lowest in
    let if3 = c.if-last-gt-LAST_ROW in
    let if2 = c.if-last-first in
    let if1 = c.if-first-lt1 in
    simp (
      le-leb _ _ if1.false,
      le-leb _ _ if2.false,
      le-leb _ _ if3.false,
      le-leb _ _ if4.false,
      le-leb _ _ c.if-highest-gt-VALUE_LIMIT.false,
      le-leb _ _
          c.if-haircut-gt-MOST_HAIRCUT.false,
    )
