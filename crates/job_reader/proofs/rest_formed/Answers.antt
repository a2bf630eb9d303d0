use borrow.Author.Tests.{eq-eqb, ne_eqb}
use mathlib.Core.Path.{sym, ◌∙◌}
use Rattle.job_record.specs.Form.{rest_formed}
use Rattle.job_reader.proofs.rest_formed.Goals as goal

pub returns-then-bytes-at : goal.returns-then-bytes-at
unfolding rest_formed
returns-then-bytes-at c = simp (eq-eqb _ _ c.if-bytes-at.true)

pub returns-then-kind_formed : goal.returns-then-kind_formed
unfolding rest_formed
returns-then-kind_formed c = simp (ne_eqb _ _ c.if-bytes-at.false, sym c.kind_formed.ensures ∙ c.if-kind_formed.true)

pub returns : goal.returns
unfolding rest_formed
returns c =
    simp (ne_eqb _ _ c.if-bytes-at.false, sym c.kind_formed.ensures ∙ c.if-kind_formed.false)
    c.list_formed.ensures
