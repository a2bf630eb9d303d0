use Rattle.std.proofs.Common.{◌≡◌, ◌≤◌, length, refl, sym, arith}
use borrow.Author.Rules.{rules}
use Rattle.job_record.specs.Form.{most_job_steps}
use Rattle.limits.specs.WithinLimits.{WithinLimits}
use Rattle.arithmetic.proofs.RefusalLaws.{refusal-some}
use Rattle.lattice.proofs.TreeEntries.{tree-ok}
use Rattle.job_laws.proofs.FitLaws.{Fitted, accepted, lent-column}
use Rattle.job_laws.specs.JobPrices.{option_form}
use Rattle.job_laws.proofs.PriceLaws as laws
use Rattle.job_prices.proofs.Clauses.{clauses}
use Rattle.job_prices.proofs.prices_in_place.Goals as goal
use Rattle.job_prices.proofs.prices_in_place.Goals.{After-meant_reversion-reversion, In_default, In_default-fit_of_record, Start}

pub returns-in-Err : goal.returns-in-Err
returns-in-Err c =
    let a = c.args in
    clauses
    (laws.form-refused a.job a.discounts.now a.state_prices.now _ c.in-Err.ensures (refusal-some _) _ (rw c.number.ensures at c.refused.ensures))

-- the option has a job's form
form-none : (c : In_default) → let a = c.args in option_form a.job.option.tag a.job.option.count ≡ 0
form-none c = sym (rw c.in_default.is at c.option_form.ensures)

pub returns-in-Err-fit_of_record : goal.returns-in-Err-fit_of_record
returns-in-Err-fit_of_record c =
    let a = c.args in
    let fit = rw c.in-Err-fit_of_record.is at c.fit_of_record.ensures in
    clauses
    (laws.fit_refused a.job a.discounts.now a.state_prices.now (form-none (goal.at.returns-in-Err-fit_of_record c).In_default) _ _ _
    (fit.number, (fit.discounted, fit.priced)) _ (rw c.number-in-Err-fit_of_record.ensures at c.refused-in-Err-fit_of_record.ensures) (refusal-some _))

-- the fit that the prices are made of
fitted : (c : In_default-fit_of_record) →
    let a = c.args in
    Fitted a.job a.discounts.now a.state_prices.now 0 c.fit_of_record.new.discounts c.fit_of_record.new.state_prices
fitted c =
    let fit = rw c.in_default-fit_of_record.is at c.fit_of_record.ensures in
    (fit.number, (fit.discounted, fit.priced))

within : (c : After-meant_reversion-reversion) → WithinLimits c.args.job.steps c.meant_reversion-reversion.result
within c =
    let none = sym (fitted (goal.at.After-meant_reversion-reversion c).In_default-fit_of_record).0 in
    rw c.meant_reversion-reversion.ensures (accepted c.args.job _ _ none)

few : (c : In_default-fit_of_record) → c.args.job.steps ≤ most_job_steps
few c =
    let a = c.args in
    laws.steps-within a.job a.discounts.now a.state_prices.now (form-none (goal.at.In_default-fit_of_record c).In_default) _ _ _ (fitted c) refl

pub unwrap-count-requires : goal.unwrap-count-requires
unwrap-count-requires c =
    tree-ok _ _ _ _ c.discounts_needed.ensures (within (goal.at.unwrap-count-requires c).After-meant_reversion-reversion)

pub slice_bounds-tree_prices-end : goal.slice_bounds-tree_prices-end
slice_bounds-tree_prices-end c =
    let a = c.args in
    laws.discounts-end a.job a.discounts.now a.state_prices.now (form-none (goal.at.slice_bounds-tree_prices-end c).In_default) _ _ _
    (fitted (goal.at.slice_bounds-tree_prices-end c).In_default-fit_of_record) refl c.meant_reversion-reversion.result
    c.meant_reversion-reversion.ensures _ (rw c.unwrap-count.ensures at c.discounts_needed.ensures)

pub slice_bounds-tree_prices-end-2 : goal.slice_bounds-tree_prices-end-2
slice_bounds-tree_prices-end-2 c =
    let a = c.args in
    laws.discounts-count a.job a.discounts.now a.state_prices.now (form-none (goal.at.slice_bounds-tree_prices-end-2 c).In_default) _ _ _
    (fitted (goal.at.slice_bounds-tree_prices-end-2 c).In_default-fit_of_record) refl c.meant_reversion-reversion.result
    c.meant_reversion-reversion.ensures _ (rw c.unwrap-count.ensures at c.discounts_needed.ensures)

flows-size : (s : Start) → length s.args.job.flows ≡ most_job_steps
flows-size s = search rules

pub slice_bounds-flows-end : goal.slice_bounds-flows-end
slice_bounds-flows-end c =
    omega (
      arith,
      flows-size (goal.at.slice_bounds-flows-end c).Start,
      few (goal.at.slice_bounds-flows-end c).In_default-fit_of_record,
    )

pub slice_bounds-tree_prices-end-3 : goal.slice_bounds-tree_prices-end-3
slice_bounds-tree_prices-end-3 c =
    let size = flows-size (goal.at.slice_bounds-tree_prices-end-3 c).Start in
    let steps = few (goal.at.slice_bounds-tree_prices-end-3 c).In_default-fit_of_record in
    lent-column c.args.job.flows c.args.job.steps (omega (arith, size, steps))

pub tree_prices-requires : goal.tree_prices-requires
tree_prices-requires c =
    let a = c.args in
    laws.dates-few a.job a.discounts.now a.state_prices.now (form-none (goal.at.tree_prices-requires c).In_default) _ _ _
    (fitted (goal.at.tree_prices-requires c).In_default-fit_of_record) refl

pub returns : goal.returns
returns c =
    let a = c.args in
    clauses
    (laws.prices-made a.job a.discounts.now a.state_prices.now (form-none (goal.at.returns c).In_default) _ _ _
    (fitted (goal.at.returns c).In_default-fit_of_record) refl c.meant_reversion-reversion.result
    c.meant_reversion-reversion.ensures _ (rw c.unwrap-count.ensures at c.discounts_needed.ensures) _ c.tree_prices.ensures)
