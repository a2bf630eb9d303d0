use Rattle.arithmetic.proofs.RowLaws.{Filled}
use Rattle.curve.specs.Curve.{discount_at}
use Rattle.curve.proofs.store.Given as goal

abbrev pub invariant-loop-i : goal.invariant-loop-i
invariant-loop-i l = Filled l.initial.discounts l.discounts (discount_at l.frequency l.kinds l.figures) l.i
