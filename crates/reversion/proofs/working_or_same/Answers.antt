use mathlib.Core.Path.{sym, ◌∙◌}
use native.Mathlib.Omega.{arith}
use Rattle.reversion.proofs.ReversionLaws.{working-second, working-other, working-beyond}
use Rattle.reversion.proofs.working_or_same.Goals as goal

pub returns-then-version-ne2 : goal.returns-then-version-ne2
returns-then-version-ne2 c = sym (working-other _ _ c.if-version-ne2.true)

pub returns-then-reversion-gt-MOST_REVERSION : goal.returns-then-reversion-gt-MOST_REVERSION
returns-then-reversion-gt-MOST_REVERSION c = sym (working-beyond _ _ c.if-reversion-gt-MOST_REVERSION.true)

pub returns : goal.returns
returns c = c.exact_reversion.ensures ∙ sym (working-second _ _ (omega arith) (omega arith))
