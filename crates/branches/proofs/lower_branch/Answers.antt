use mathlib.Core.Path.{◌≡◌}
use Prim.Native.Nat.{ℕ, ◌≤◌}
use native.Mathlib.Omega.{arith}
use mir.Syntax.{w64}
use mir.Val.{SFits}
use mir.Facts.{to_z-of_z}
use lib.IntN.{ℤ, pos, nat_abs, ◌-ℤ◌}
use Rattle.branches.proofs.BranchLaws as laws
use Rattle.branches.proofs.lower_branch.Goals as goal

-- the lowest of the node's branch inside the edge
ordinary-fits : (j : ℤ) (d : ℕ) → nat_abs j ≡ d → d ≤ 60 → SFits w64 (j -ℤ pos 1)
ordinary-fits j d e h = laws.less-fits j 1 (omega arith) (omega arith)

pub overflow_mul-distance : goal.overflow_mul-distance
overflow_mul-distance c = omega (arith, c.requires.reversion_le_most_reversion.2)

pub overflow_sub-lowest : goal.overflow_sub-lowest
overflow_sub-lowest c = rw (to_z-of_z c.ranges.node) (ordinary-fits c.args.node _ c.requires.node_value.0 c.requires.reversion_le_most_reversion.1)

pub returns-then-distance-reversion-gt1840 : goal.returns-then-distance-reversion-gt1840
returns-then-distance-reversion-gt1840 c =
    rw (to_z-of_z c.ranges.node) (laws.lower-edge _ _ _ _ c.requires.node_value.0 c.requires.node_value.1 c.upper-image.ensures
    c.requires.reversion_le_most_reversion.2
    c.if-distance-reversion-gt1840.true)

pub returns-else-distance-reversion-gt1840 : goal.returns-else-distance-reversion-gt1840
returns-else-distance-reversion-gt1840 c =
    rw (to_z-of_z c.ranges.node, to_z-of_z (ordinary-fits c.args.node _ c.requires.node_value.0 c.requires.reversion_le_most_reversion.1))
    (laws.lower-ordinary _ _ _ _ c.requires.node_value.0 c.requires.node_value.1 c.upper-image.ensures c.if-distance-reversion-gt1840.false)
