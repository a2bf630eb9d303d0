use mathlib.Core.Path.{sym}
use native.Mathlib.Omega.{arith}
use Rattle.lattice.proofs.EntryLaws as entry
use native.Mathlib.Nat.{mul-le-mul}
use Prim.Native.Nat.{ℕ, ◌+◌, ◌*◌, ◌≤◌, ◌<◌}
use Rattle.limits.specs.Limits.{most_reversion}
use Rattle.lattice.proofs.Nodes.{top-range}
use Rattle.lattice.proofs.Sizes.{within-by-product}
use Rattle.branches.proofs.upper.Goals as goal

edge : (d b : ℕ) → d * b ≤ 1840 + b → 1840 < d * b → b ≤ most_reversion → (1841 ≤ d * b) × (d * b ≤ 7840)
edge d b w h l = top-range _ _ (within-by-product _ _ w) h l

pub overflow_mul-z : goal.overflow_mul-z
overflow_mul-z c = omega (arith, mul-le-mul c.requires.1 c.requires.0)

pub edge_up-requires : goal.edge_up-requires
edge_up-requires c = (edge _ _ c.requires.2 c.if-z-gt1840.true c.requires.0).1

pub edge_middle-requires : goal.edge_middle-requires
edge_middle-requires c = edge _ _ c.requires.2 c.if-z-gt1840.true c.requires.0

pub ordinary_up-requires : goal.ordinary_up-requires
ordinary_up-requires c = (edge _ _ c.requires.2 c.if-z-gt1840.true c.requires.0).1

pub returns-then-z-gt1840 : goal.returns-then-z-gt1840
returns-then-z-gt1840 c =
    rw (c.edge_up.ensures, c.edge_middle.ensures, c.ordinary_up.ensures)
    (sym (entry.three-top _ _ c.requires.2 c.if-z-gt1840.true))

pub returns : goal.returns
returns c =
    rw (c.ordinary_up-2.ensures, c.ordinary_middle.ensures, c.ordinary_down.ensures)
    (sym (entry.three-ordinary _ _ c.if-z-gt1840.false))
