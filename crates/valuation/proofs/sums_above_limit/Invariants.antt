use Rattle.valuation.proofs.EntryLaws as laws
use Rattle.valuation.proofs.sums_above_limit.Given as goal

abbrev pub invariant-loop-price : goal.invariant-loop-price
invariant-loop-price l = laws.Summed l.prices l.price-index l.total
