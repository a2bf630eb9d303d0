use mathlib.Core.Path.{◌≡◌}
use native.Mathlib.Omega.{arith}
use lib.ListN.{length}
use borrow.Author.Rules.{rules}
use Rattle.job_record.specs.Form.{most_job_steps}
use Rattle.job_laws.proofs.FitLaws as laws
use Rattle.job_fit.proofs.quotes_of_record.Goals as goal
use Rattle.job_fit.proofs.quotes_of_record.Goals.{Start}

clauses-number-memory : {A B : Type 0} → A × B → record { number : A; memory : B }
clauses-number-memory w = record { number = w.0; memory = w.1 }

kinds-size : (s : Start) → length s.args.job.kinds ≡ most_job_steps
kinds-size s = search rules

pub returns-then-steps-gt-MOST_STEPS : goal.returns-then-steps-gt-MOST_STEPS
returns-then-steps-gt-MOST_STEPS c = clauses-number-memory (laws.quotes-refused c.args.job c.if-steps-gt-MOST_STEPS.true c.args.quotes.now)

pub slice_bounds-convert-end : goal.slice_bounds-convert-end
slice_bounds-convert-end c =
    laws.lent-column c.rows_of-rows.result c.args.job.steps (search rules)

pub slice_bounds-kinds-end : goal.slice_bounds-kinds-end
slice_bounds-kinds-end c = omega (arith, kinds-size (goal.at.slice_bounds-kinds-end c).Start)

pub slice_bounds-convert-end-2 : goal.slice_bounds-convert-end-2
slice_bounds-convert-end-2 c =
    laws.lent-column c.args.job.kinds c.args.job.steps (omega (arith, kinds-size (goal.at.slice_bounds-convert-end-2 c).Start))

pub slice_bounds-convert-end-3 : goal.slice_bounds-convert-end-3
slice_bounds-convert-end-3 c =
    laws.lent-column c.figures_of-figures.result c.args.job.steps (search rules)

pub returns : goal.returns
returns c =
    let a = c.args in
    let quotes = c.convert.ensures in
    clauses-number-memory
    (laws.quotes-made a.job (omega arith) _ _ c.rows_of-rows.ensures.1 c.figures_of-figures.ensures.1 a.quotes.now _ _ quotes.number
    quotes.memory)
