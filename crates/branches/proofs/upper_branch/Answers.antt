use mathlib.Core.Path.{◌≡◌}
use Prim.Native.Nat.{ℕ, ◌≤◌}
use native.Mathlib.Omega.{arith}
use mir.Syntax.{w64}
use mir.Val.{SFits}
use mir.Facts.{to_z-of_z}
use lib.IntN.{ℤ, pos, ◌-ℤ◌}
use Rattle.branches.proofs.BranchLaws as laws
use Rattle.branches.proofs.upper_branch.Goals as goal

-- the lowest of the node's branch on the edge and inside it
edge-fits : (j : ℤ) (d : ℕ) → j ≡ pos d → d ≤ 60 → SFits w64 (j -ℤ pos 2)
edge-fits j d e h = laws.less-fits j 2 (rw e h) (omega arith)

ordinary-fits : (j : ℤ) (d : ℕ) → j ≡ pos d → d ≤ 60 → SFits w64 (j -ℤ pos 1)
ordinary-fits j d e h = laws.less-fits j 1 (rw e h) (omega arith)

pub overflow_mul-distance : goal.overflow_mul-distance
overflow_mul-distance c = omega (arith, c.requires.reversion_le_most_reversion.2)

pub overflow_sub-lowest : goal.overflow_sub-lowest
overflow_sub-lowest c = rw (to_z-of_z c.ranges.node) (edge-fits _ _ c.requires.node_value c.requires.reversion_le_most_reversion.1)

pub overflow_sub-lowest-else-distance-reversion-gt1840 : goal.overflow_sub-lowest-else-distance-reversion-gt1840
overflow_sub-lowest-else-distance-reversion-gt1840 c =
    rw (to_z-of_z c.ranges.node) (ordinary-fits _ _ c.requires.node_value c.requires.reversion_le_most_reversion.1)

pub returns-then-distance-reversion-gt1840 : goal.returns-then-distance-reversion-gt1840
returns-then-distance-reversion-gt1840 c =
    rw (
      to_z-of_z c.ranges.node,
      to_z-of_z (edge-fits _ _ c.requires.node_value c.requires.reversion_le_most_reversion.1),
      c.requires.node_value,
      c.upper-probabilities.ensures,
    )
    (laws.upper-edge _ _ c.requires.reversion_le_most_reversion.2 c.if-distance-reversion-gt1840.true)

pub returns-else-distance-reversion-gt1840 : goal.returns-else-distance-reversion-gt1840
returns-else-distance-reversion-gt1840 c =
    rw (
      to_z-of_z c.ranges.node,
      to_z-of_z (ordinary-fits _ _ c.requires.node_value c.requires.reversion_le_most_reversion.1),
      c.requires.node_value,
      c.upper-probabilities.ensures,
    )
    (laws.upper-ordinary _ _ c.if-distance-reversion-gt1840.false)
