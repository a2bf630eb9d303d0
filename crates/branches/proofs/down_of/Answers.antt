use native.Mathlib.Omega.{arith}
use Rattle.lattice.proofs.TableLaws as laws
use Rattle.branches.proofs.down_of.Goals as goal

pub upper-image-requires : goal.upper-image-requires
upper-image-requires c = (c.requires.0, omega (arith, c.requires.1), laws.nearer _ _ _ c.requires.2 (omega arith))

pub returns-then-index-half_width : goal.returns-then-index-half_width
returns-then-index-half_width c = laws.down-below _ _ _ _ c.if-index-half_width.true c.upper-image.ensures

pub upper-node-requires : goal.upper-node-requires
upper-node-requires c = (c.requires.0, omega (arith, c.requires.1), laws.nearer _ _ _ c.requires.2 (omega (arith, c.requires.3)))

pub returns : goal.returns
returns c = laws.down-above _ _ _ _ c.if-index-half_width.false c.upper-node.ensures
