use Rattle.fitting.proofs.Progress as laws
use Rattle.fitting.proofs.rows.fit_rows.Given as goal

abbrev pub invariant-loop-row : goal.invariant-loop-row
invariant-loop-row l =
    laws.Progress l.reversion l.quotes l.factors l.initial.discounts l.initial.state_prices l.discounts l.state_prices l.row
