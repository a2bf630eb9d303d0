use native.Mathlib.Omega.{arith}
use borrow.Author.Tests.{eq-eqb, ne_eqb}
use Rattle.writer_laws.specs.inside.Parts.{quotes_from}
use Rattle.job_writer.proofs.quotes_from.Goals as goal

pub returns-then-version-eq0 : goal.returns-then-version-eq0
unfolding quotes_from
returns-then-version-eq0 c = (simp (eq-eqb _ 0 c.if-version-eq0.true), omega arith)

pub returns : goal.returns
unfolding quotes_from
returns c = (simp (ne_eqb _ 0 c.if-version-eq0.false), omega arith)
