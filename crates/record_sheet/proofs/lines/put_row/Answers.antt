use mathlib.Core.Path.{◌≡◌, ap, ◌∙◌}
use Prim.Native.Nat.{suc, ◌+◌}
use borrow.Author.Tests.{le-leb}
use Rattle.lent_tree.specs.LentTree.{stored_row}
use Rattle.arithmetic.specs.Row.{sum_of}
use Rattle.row_view.specs.declared.RowKind.TheVariants.{StatePrices}
use native.Mathlib.Numerals.{add-one}
use Rattle.text_laws.proofs.LineLaws.{line-ok}
use Rattle.sheet_laws.proofs.PartLaws as laws
use Rattle.arithmetic.proofs.ListSums.{sum-listed}
use borrow.Author.Rules.{rules}
use native.Mathlib.Omega.{arith}
use Rattle.record_sheet.proofs.lines.put_row.Goals as goal
use Rattle.record_sheet.proofs.lines.put_row.Goals.{After-row_total-sum, After-row_view-part}

part-is : (c : After-row_view-part) →
    let a = c.args in
    c.row_view-part.result.now ≡ stored_row a.tree.reversion a.state_prices.now (suc a.row.before)
part-is c =
    let a = c.args in
    rw (← add-one a.row.before)
    (laws.shown a.discounts a.state_prices StatePrices a.tree.steps a.tree.reversion (a.row.before + 1) c.row_view-part.result c.requires.before_lt_steps.1
    (le-leb (a.row.before + 1) a.tree.steps (omega (arith, c.requires.before_lt_steps.0))) c.row_view-part.ensures)

pub row_total-sum-requires : goal.row_total-sum-requires
row_total-sum-requires c =
    omega (arith, sum-listed c.row_view-part.result.now, ap sum_of (part-is c), c.requires.before_lt_steps.3)

-- where the sum is known
total-is : (c : After-row_total-sum) →
    let a = c.args in
    c.row_total-sum.result ≡ sum_of (stored_row a.tree.reversion a.state_prices.now (suc a.row.before))
total-is c = c.row_total-sum.ensures ∙ sum-listed _ ∙ ap sum_of (part-is (goal.at.After-row_total-sum c).After-row_view-part)

pub unwrap-requires : goal.unwrap-requires
unwrap-requires c =
    let pre = c.requires.before_lt_steps in
    line-ok _ _ _ c.row_line.result pre.4 pre.5 (c.row_line.ensures.value, c.row_line.ensures.out_after)

pub returns : goal.returns
returns c =
    let a = c.args in
    let pre = c.requires in
    laws.row-line-stands a.tree.steps a.tree.reversion a.quotes.now a.discounts.now a.state_prices.now a.row.before a.end
    c.row_total-sum.result a.out.now _ a.row.bound (total-is (goal.at.returns c).After-row_total-sum) pre.bound_value
    (omega (arith, pre.before_lt_steps.0, pre.before_lt_steps.1.lent.limits.steps-within-limit))
    (c.type_inv.quotes a.row.before).fits (search rules) pre.before_lt_steps.4 pre.before_lt_steps.5
    (rw c.unwrap.ensures at c.row_line.ensures.value, c.row_line.ensures.out_after)
