use Rattle.std.proofs.Common.{◌≡◌, ℕ, ◌<◌, true}
use Rattle.pair_laws.specs.PairCauses.{discounted}
use Rattle.pair_causes.proofs.combined_cause.Given as goal

abbrev pub invariant-loop-row : goal.invariant-loop-row
invariant-loop-row l = (i : ℕ) → i < l.row → discounted l.rate_reversion l.spread_reversion l.rates l.spreads i ≡ true
