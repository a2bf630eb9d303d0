use mathlib.Core.Path.{sym, ap, ◌∙◌}
use Rattle.arithmetic.specs.Answers.{answered}
use Rattle.reversion.proofs.EntryLaws.{answer-beyond, answer-unknown, answer-known}
use Rattle.reversion.proofs.working_reversion.Goals as goal

pub returns-then-reversion-gt-MOST_REVERSION : goal.returns-then-reversion-gt-MOST_REVERSION
returns-then-reversion-gt-MOST_REVERSION c = sym (answer-beyond _ _ _ c.if-reversion-gt-MOST_REVERSION.true)

pub returns-then-not-is_version : goal.returns-then-not-is_version
returns-then-not-is_version c =
    sym (answer-unknown _ _ _ c.if-reversion-gt-MOST_REVERSION.false (sym c.is_version.ensures ∙ c.if-not-is_version.true))

pub returns : goal.returns
returns c =
    ap answered c.working_or_same.ensures
    ∙ sym (answer-known _ _ _ c.if-reversion-gt-MOST_REVERSION.false (sym c.is_version.ensures ∙ c.if-not-is_version.false))
