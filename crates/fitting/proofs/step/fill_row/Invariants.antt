use Rattle.fitting.proofs.NodeLoop as laws
use Rattle.fitting.proofs.step.fill_row.Given as goal

abbrev pub invariant-loop-k : goal.invariant-loop-k
invariant-loop-k l =
    laws.Stepping l.quote l.z l.state_prices l.factors l.downs l.initial.discounts l.initial.sums l.discounts l.sums l.k
