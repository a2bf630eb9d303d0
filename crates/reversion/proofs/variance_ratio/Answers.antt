use mathlib.Core.Path.{sym, ap, ◌∙◌}
use native.Mathlib.Omega.{arith}
use Rattle.arithmetic.specs.Answers.{answered}
use Rattle.reversion.proofs.EntryLaws.{answer-beyond, answer-unknown, ratio-answer-first, ratio-answer-none, ratio-answer-second}
use Rattle.reversion.proofs.variance_ratio.Goals as goal

pub returns-then-reversion-gt-MOST_REVERSION : goal.returns-then-reversion-gt-MOST_REVERSION
returns-then-reversion-gt-MOST_REVERSION c = sym (answer-beyond _ _ _ c.if-reversion-gt-MOST_REVERSION.true)

pub returns-then-not-is_version : goal.returns-then-not-is_version
returns-then-not-is_version c =
    sym (answer-unknown _ _ _ c.if-reversion-gt-MOST_REVERSION.false (sym c.is_version.ensures ∙ c.if-not-is_version.true))

pub returns-then-version-eq1 : goal.returns-then-version-eq1
returns-then-version-eq1 c = sym (ratio-answer-first _ _ (omega arith) (sym c.is_version.ensures ∙ c.if-not-is_version.false) c.if-version-eq1.true)

pub returns-then-reversion-eq0 : goal.returns-then-reversion-eq0
returns-then-reversion-eq0 c = sym (ratio-answer-none _ _ (omega arith) (sym c.is_version.ensures ∙ c.if-not-is_version.false) c.if-reversion-eq0.true)

pub returns : goal.returns
returns c =
    ap answered c.exact_ratio.ensures
    ∙ sym (ratio-answer-second _ _ (omega arith) (sym c.is_version.ensures ∙ c.if-not-is_version.false) c.if-version-eq1.false (omega arith))
