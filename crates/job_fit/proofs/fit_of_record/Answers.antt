use mathlib.Core.Path.{◌≡◌}
use native.Mathlib.Omega.{arith}
use lib.ListN.{length}
use borrow.Author.Rules.{rules}
use Rattle.job_record.specs.Form.{most_job_steps}
use Rattle.job_laws.proofs.FitLaws as laws
use Rattle.job_fit.proofs.fit_of_record.Goals as goal
use Rattle.job_fit.proofs.fit_of_record.Goals.{Start}

clauses-number-discounted-priced : {A B C : Type 0} → A × (B × C) → record { number : A; discounted : B; priced : C }
clauses-number-discounted-priced w = record { number = w.0; discounted = w.1.0; priced = w.1.1 }

kinds-size : (s : Start) → length s.args.job.kinds ≡ most_job_steps
kinds-size s = search rules

pub returns-then-steps-gt-MOST_STEPS : goal.returns-then-steps-gt-MOST_STEPS
returns-then-steps-gt-MOST_STEPS c =
    clauses-number-discounted-priced
    (laws.fit_refused c.args.job c.if-steps-gt-MOST_STEPS.true c.args.discounts.now c.args.state_prices.now)

pub slice_bounds-fit_version-end : goal.slice_bounds-fit_version-end
slice_bounds-fit_version-end c =
    laws.lent-column c.rows_of-rows.result c.args.job.steps (search rules)

pub slice_bounds-kinds-end : goal.slice_bounds-kinds-end
slice_bounds-kinds-end c = omega (arith, kinds-size (goal.at.slice_bounds-kinds-end c).Start)

pub slice_bounds-fit_version-end-2 : goal.slice_bounds-fit_version-end-2
slice_bounds-fit_version-end-2 c =
    laws.lent-column c.args.job.kinds c.args.job.steps (omega (arith, kinds-size (goal.at.slice_bounds-fit_version-end-2 c).Start))

pub slice_bounds-fit_version-end-3 : goal.slice_bounds-fit_version-end-3
slice_bounds-fit_version-end-3 c =
    laws.lent-column c.figures_of-figures.result c.args.job.steps (search rules)

pub returns : goal.returns
returns c =
    let a = c.args in
    let fit = c.fit_version.ensures in
    clauses-number-discounted-priced
    (laws.fit-made a.job (omega arith) _ _ c.rows_of-rows.ensures.1 c.figures_of-figures.ensures.1 c.meant_version.result
    c.meant_version.ensures a.discounts.now a.state_prices.now _ _ _ (fit.number, (fit.discounted, fit.priced)))
