use Rattle.arithmetic.proofs.CauseLaws as laws
use Rattle.arithmetic.proofs.lowest_cause.Goals as goal

pub returns-then-a-eq0 : goal.returns-then-a-eq0
returns-then-a-eq0 c = laws.lowest-first _ _ c.if-a-eq0.true

pub returns-then-b-eq0 : goal.returns-then-b-eq0
returns-then-b-eq0 c = laws.lowest-second _ _ c.before.if-a-eq0.false c.if-b-eq0.true

pub returns-then-a-b : goal.returns-then-a-b
returns-then-a-b c = laws.lowest-less _ _ c.before.before.if-a-eq0.false c.before.if-b-eq0.false c.if-a-b.true

pub returns-else-a-b : goal.returns-else-a-b
returns-else-a-b c = laws.lowest-more _ _ c.before.before.if-a-eq0.false c.before.if-b-eq0.false c.if-a-b.false
