use mathlib.Core.Path.{◌∙◌, sym}
use native.Mathlib.Omega.{arith}
use Rattle.lattice.proofs.EntryLaws as entry
use Rattle.lattice.proofs.Sizes.{half-flat}
use Rattle.lattice.proofs.half_width_of.Goals as goal

pub returns-then-reversion-eq0 : goal.returns-then-reversion-eq0
returns-then-reversion-eq0 c = sym (half-flat _ _ c.if-reversion-eq0.true)

pub returns-then-row-highest : goal.returns-then-row-highest
returns-then-row-highest c =
    let s = c.before in
    entry.half-before _ _ s.before.if-reversion-eq0.false (omega (arith, c.if-row-highest.true, s.highest_node-highest.ensures))

pub returns-else-row-highest : goal.returns-else-row-highest
returns-else-row-highest c =
    let s = c.before in
    s.highest_node-highest.ensures ∙ entry.half-from _ _ s.before.if-reversion-eq0.false (omega (arith, c.if-row-highest.false, s.highest_node-highest.ensures))
