use mathlib.Core.Path.{sym}
use Rattle.lattice.proofs.EntryLaws as entry
use Rattle.lattice.proofs.about_row.Goals as goal

pub returns-then-reversion-gt-MOST_REVERSION : goal.returns-then-reversion-gt-MOST_REVERSION
returns-then-reversion-gt-MOST_REVERSION c = sym (entry.row-steep _ _ _ c.if-reversion-gt-MOST_REVERSION.true)

pub returns-then-row-gt-MOST_STEPS : goal.returns-then-row-gt-MOST_STEPS
returns-then-row-gt-MOST_STEPS c = sym (entry.row-past _ _ _ c.before.if-reversion-gt-MOST_REVERSION.false c.if-row-gt-MOST_STEPS.true)

pub returns : goal.returns
returns c = sym (entry.row-found _ _ _ c.before.if-reversion-gt-MOST_REVERSION.false c.if-row-gt-MOST_STEPS.false)
