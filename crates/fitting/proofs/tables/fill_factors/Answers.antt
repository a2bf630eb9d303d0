use Rattle.std.proofs.Common.{sym, ◌∙◌, arith}
use Rattle.arithmetic.proofs.RowLaws.{around-start, around-next, around-all}
use Rattle.fitting.proofs.TableFit as laws
use Rattle.fitting.proofs.tables.fill_factors.Goals as goal

pub loop-distance-init : goal.loop-distance-init
loop-distance-init c = around-start _ _ _

pub unwrap-sides-requires : goal.unwrap-sides-requires
unwrap-sides-requires c = laws.sides-known _ _ _ c.requires.1 (omega arith) c.both_sides.ensures

pub loop-distance-preserved : goal.loop-distance-preserved
loop-distance-preserved c =
    around-next c.loop-distance.invariant (omega arith) (omega (arith, c.requires.2))
    (laws.below-side _ _ _ c.requires.1 (omega arith) (sym c.unwrap-sides.ensures ∙ c.both_sides.ensures))
    (laws.above-side _ _ _ c.requires.1 (omega arith) (sym c.unwrap-sides.ensures ∙ c.both_sides.ensures))

pub returns : goal.returns
returns c = around-all c.loop-distance.invariant (omega arith) c.requires.2
