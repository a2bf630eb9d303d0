use Rattle.job_fit.proofs.ColumnLaws as laws
use Rattle.job_fit.proofs.columns.figures_of.Given as goal

abbrev pub invariant-loop-index : goal.invariant-loop-index
invariant-loop-index l = laws.Figured l.fn.patterns l.initial.figures l.figures l.index
