use borrow.Author.Tests.{eq-eqb, ne_eqb}
use Rattle.writer_laws.specs.Sound.{is_absent}
use Rattle.job_soundness.proofs.is_absent.Goals as goal

pub returns-then-tag-ne0 : goal.returns-then-tag-ne0
unfolding is_absent
returns-then-tag-ne0 c = simp (ne_eqb _ 0 c.if-tag-ne0.true)

pub returns-then-kind-ne0 : goal.returns-then-kind-ne0
unfolding is_absent
returns-then-kind-ne0 c = simp (eq-eqb _ 0 c.if-tag-ne0.false, ne_eqb _ 0 c.if-kind-ne0.true)

pub returns-then-expiry-ne0 : goal.returns-then-expiry-ne0
unfolding is_absent
returns-then-expiry-ne0 c = simp (eq-eqb _ 0 c.if-tag-ne0.false, eq-eqb _ 0 c.if-kind-ne0.false, ne_eqb _ 0 c.if-expiry-ne0.true)

pub returns-then-strike-ne0 : goal.returns-then-strike-ne0
unfolding is_absent
returns-then-strike-ne0 c =
    simp (eq-eqb _ 0 c.if-tag-ne0.false, eq-eqb _ 0 c.if-kind-ne0.false, eq-eqb _ 0 c.if-expiry-ne0.false, ne_eqb _ 0 c.if-strike-ne0.true)

pub returns : goal.returns
unfolding is_absent
returns c =
    simp (eq-eqb _ 0 c.if-tag-ne0.false, eq-eqb _ 0 c.if-kind-ne0.false, eq-eqb _ 0 c.if-expiry-ne0.false, eq-eqb _ 0 c.if-strike-ne0.false)
