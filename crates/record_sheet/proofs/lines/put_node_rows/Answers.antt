use mathlib.Core.Path.{◌≡◌, refl, ◌∙◌}
use Prim.Native.Nat.{ℕ, suc, ◌+◌, ◌*◌, ◌^◌, ◌≤◌, ◌<◌}
use lib.ListN.{length, get_or}
use Rattle.text_laws.specs.Lines.{longest_line}
use Rattle.lattice.specs.Shape.{row_start, discounts_needed}
use Rattle.lattice.proofs.TreeEntries.{row-ok}
use Rattle.sheet_laws.specs.TreeSheet.{nodes_of_row}
use Rattle.node_lines.proofs.LineLoop.{begun, gone, ended}
use Rattle.sheet_laws.proofs.PartLaws as laws
use native.Mathlib.Omega.{arith}
use Rattle.record_sheet.proofs.lines.put_node_rows.Goals as goal
use Rattle.record_sheet.proofs.lines.put_node_rows.Goals.{Start}

needed : (n b : ℕ) → discounts_needed n b ≡ row_start b n
unfolding discounts_needed
needed n b = refl

fits : (c : Start) → ((j : ℕ) → get_or c.args.discounts.now j 0 < 2 ^ 64) → (i : ℕ) → i < c.args.steps →
    longest_line * row_start c.args.reversion i + length (nodes_of_row c.args.reversion c.args.discounts.now i)
    ≤ longest_line * row_start c.args.reversion (suc i)
fits c small =
    let a = c.args in
    laws.nodes-fit a.steps a.reversion a.discounts.now c.requires.lent small

pub loop-row-init : goal.loop-row-init
loop-row-init c =
    let a = c.args in (
      begun (nodes_of_row a.reversion a.discounts.now) (λ (i : ℕ). longest_line * row_start a.reversion i) a.steps
          (fits (goal.at.loop-row-init c).Start (λ j. (c.type_inv.discounts j).fits)) a.out.now a.end
          (omega (arith, needed a.steps a.reversion, c.requires.room)),
      c.requires.place ∙ needed a.steps a.reversion,
    )

pub unwrap-count-requires : goal.unwrap-count-requires
unwrap-count-requires c =
    row-ok _ _ _ _ c.node_count.ensures c.requires.lent.limits.reversion-within-limit
    (omega (arith, c.loop-row.invariant.0.upto, c.requires.lent.limits.steps-within-limit))

pub unwrap-lines-requires : goal.unwrap-lines-requires
unwrap-lines-requires c =
    let a = c.args in
    let l = c.loop-row in
    let p = l.invariant.0 in
    let some : 0 < l.row = omega arith in
    laws.before-ok a.steps a.reversion a.discounts.now c.requires.lent l.row l.place _ some
    p.upto (rw c.unwrap-count.ensures at c.node_count.ensures) l.invariant.1 l.out l.start c.node_lines.result p.enough
    (omega (arith, p.below, p.same, c.requires.inside)) (c.node_lines.ensures.answer, c.node_lines.ensures.memory)

pub loop-row-preserved : goal.loop-row-preserved
loop-row-preserved c =
    let a = c.args in
    let l = c.loop-row in
    let p = l.invariant.0 in
    let some : 0 < l.row = omega arith in
    let put = laws.before-put a.steps a.reversion a.discounts.now c.requires.lent l.row l.place _ some
    p.upto (rw c.unwrap-count.ensures at c.node_count.ensures) l.invariant.1 (λ j. (c.type_inv.discounts j).fits) l.out l.start _ _ p.enough
    (omega (arith, p.below, p.same, c.requires.inside)) (rw c.unwrap-lines.ensures at c.node_lines.ensures.answer, c.node_lines.ensures.memory) in (
      gone (nodes_of_row a.reversion a.discounts.now) (λ (i : ℕ). longest_line * row_start a.reversion i) a.steps
          (fits (goal.at.loop-row-preserved c).Start (λ j. (c.type_inv.discounts j).fits))
          a.out.now a.end p some put.0,
      put.1,
    )

pub returns : goal.returns
returns c =
    let l = c.loop-row in
    let a = c.args in
    ended (nodes_of_row a.reversion a.discounts.now) (λ (i : ℕ). longest_line * row_start a.reversion i) a.steps
    (fits (goal.at.returns c).Start (λ j. (c.type_inv.discounts j).fits))
    a.out.now a.end l.invariant.0 (omega arith) c.requires.inside
