use borrow.Author.Tests.{eq-eqb, ne_eqb}
use Rattle.job_record.specs.Form.{is_kind}
use Rattle.job_reader.proofs.is_kind.Goals as goal

pub returns-then-tag-eq5 : goal.returns-then-tag-eq5
unfolding is_kind
returns-then-tag-eq5 c = simp (eq-eqb _ _ c.if-tag-eq5.true)

pub returns-then-tag-eq6 : goal.returns-then-tag-eq6
unfolding is_kind
returns-then-tag-eq6 c = simp (ne_eqb _ _ c.if-tag-eq5.false, eq-eqb _ _ c.if-tag-eq6.true)

pub returns : goal.returns
unfolding is_kind
returns c = simp (ne_eqb _ _ c.if-tag-eq5.false, ne_eqb _ _ c.if-tag-eq6.false)
