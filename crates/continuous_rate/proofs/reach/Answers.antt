use borrow.Author.Tests.{lt-ltb, le-ltb}
use Rattle.continuous_rate.specs.inside.Search.{reach_of}
use Rattle.continuous_rate.proofs.reach.Goals as goal

pub returns-then-quotient-lt499999000 : goal.returns-then-quotient-lt499999000
unfolding reach_of
returns-then-quotient-lt499999000 c = rw (lt-ltb _ _ c.if-quotient-lt499999000.true)

pub returns : goal.returns
unfolding reach_of
returns c = rw (le-ltb _ _ c.if-quotient-lt499999000.false)
