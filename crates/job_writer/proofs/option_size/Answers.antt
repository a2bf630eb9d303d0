use borrow.Author.Tests.{eq-eqb, ne_eqb}
use Rattle.writer_laws.specs.inside.Parts.{option_size}
use Rattle.job_writer.proofs.option_size.Goals as goal

pub returns-then-tag-eq8 : goal.returns-then-tag-eq8
unfolding option_size
returns-then-tag-eq8 c = simp (eq-eqb _ 8 c.if-tag-eq8.true)

pub returns-then-tag-eq10 : goal.returns-then-tag-eq10
unfolding option_size
returns-then-tag-eq10 c = simp (ne_eqb _ 8 c.if-tag-eq8.false, eq-eqb _ 10 c.if-tag-eq10.true)

pub returns : goal.returns
unfolding option_size
returns c = simp (ne_eqb _ 8 c.if-tag-eq8.false, ne_eqb _ 10 c.if-tag-eq10.false)
