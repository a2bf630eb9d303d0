use Rattle.std.proofs.Common.{◌≡◌, length}
use Rattle.fitting.proofs.StepRows as laws
use Rattle.fitting.proofs.step.normaliser_of.Given as goal

-- as many turns as pairs were yielded
abbrev pub invariant-loop-price : goal.invariant-loop-price
invariant-loop-price l = l.total ≡ laws.weighed l.state_prices l.factors (length l.yielded)
