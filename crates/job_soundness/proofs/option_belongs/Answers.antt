use mathlib.Core.Path.{sym, ◌∙◌}
use Rattle.writer_laws.proofs.SoundTests.{belongs-kind, belongs-list, belongs-none}
use Rattle.job_soundness.proofs.option_belongs.Goals as goal

pub returns-then-tag-eq8 : goal.returns-then-tag-eq8
returns-then-tag-eq8 c = sym (belongs-kind _ _ _ _ c.if-tag-eq8.true)

pub returns-then-tag-eq10 : goal.returns-then-tag-eq10
returns-then-tag-eq10 c = sym (belongs-list _ _ _ _ c.if-tag-eq8.false c.if-tag-eq10.true)

pub returns : goal.returns
returns c = c.is_absent.ensures ∙ sym (belongs-none _ _ _ _ c.if-tag-eq8.false c.if-tag-eq10.false)
