use Rattle.std.proofs.Common.{length}
use Rattle.valuation.proofs.EntryLaws as laws
use Rattle.valuation.proofs.sum_of_products.Given as goal

-- as many turns as pairs were yielded
abbrev pub invariant-loop-price : goal.invariant-loop-price
invariant-loop-price l = laws.Multiplied l.prices l.payoffs (length l.yielded) l.total
