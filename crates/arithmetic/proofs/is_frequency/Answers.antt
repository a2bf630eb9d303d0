use borrow.Author.Tests.{eq-eqb, ne_eqb}
use Rattle.arithmetic.specs.Frequency.{is_frequency}
use Rattle.arithmetic.proofs.FrequencyLaws.{listed-last}
use Rattle.arithmetic.proofs.is_frequency.Goals as goal

pub returns-then-frequency-eq1 : goal.returns-then-frequency-eq1
unfolding is_frequency
returns-then-frequency-eq1 c = simp (eq-eqb _ 1 c.if-frequency-eq1.true)

pub returns-then-frequency-eq2 : goal.returns-then-frequency-eq2
unfolding is_frequency
returns-then-frequency-eq2 c = simp (ne_eqb _ 1 c.before.if-frequency-eq1.false, eq-eqb _ 2 c.if-frequency-eq2.true)

pub returns-then-frequency-eq4 : goal.returns-then-frequency-eq4
unfolding is_frequency
returns-then-frequency-eq4 c = simp (ne_eqb _ 1 c.before.before.if-frequency-eq1.false, ne_eqb _ 2 c.before.if-frequency-eq2.false, eq-eqb _ 4 c.if-frequency-eq4.true)

pub returns : goal.returns
returns c = listed-last c.before.before.before.args.frequency c.before.before.if-frequency-eq1.false c.before.if-frequency-eq2.false c.if-frequency-eq4.false
