use Rattle.arithmetic.proofs.RowLaws.{Around}
use Rattle.fitting.proofs.TableFit as laws
use Rattle.fitting.proofs.tables.fill_factors.Given as goal

abbrev pub invariant-loop-distance : goal.invariant-loop-distance
invariant-loop-distance l = Around l.widest (laws.factors-at l.widest l.spacing) l.initial.factors l.factors l.distance
