use Rattle.price_bound.proofs.BoundLaws.{Ranged}
use Rattle.price_bound.proofs.range_of.Given as goal

abbrev pub invariant-loop-discount : goal.invariant-loop-discount
invariant-loop-discount l = Ranged l.discounts l.top l.discount-index
