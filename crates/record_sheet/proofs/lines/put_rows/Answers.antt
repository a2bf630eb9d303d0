use Prim.Native.Nat.{ℕ, suc, ◌+◌, ◌-◌, ◌*◌, ◌^◌, ◌≤◌, ◌<◌}
use mathlib.Core.List.{List}
use lib.ListN.{length, get_or}
use Rattle.text_laws.specs.Lines.{longest_line}
use Rattle.sheet_laws.specs.TreeSheet.{line_of_row}
use Rattle.node_lines.proofs.LineLoop.{begun, gone, ended}
use Rattle.sheet_laws.proofs.PartLaws as laws
use native.Mathlib.Omega.{arith}
use Rattle.record_sheet.proofs.lines.put_rows.Goals as goal
use Rattle.record_sheet.proofs.lines.put_rows.Goals.{In-loop-index, Start}

abbrev line : Start → ℕ → List ℕ
line s = line_of_row s.args.tree.steps s.args.tree.reversion s.args.quotes.now s.args.discounts.now s.args.state_prices.now

fits : (c : Start) → ((j : ℕ) → get_or c.args.quotes.now j 0 < 2 ^ 64) → (i : ℕ) → i < c.args.tree.steps →
    longest_line * i + length (line c i) ≤ longest_line * suc i
fits c small =
    let a = c.args in
    laws.rows_fit a.tree.steps a.tree.reversion a.quotes.now a.discounts.now a.state_prices.now
    c.requires.stored.0.lent.limits.steps-within-limit small c.requires.summed

pub loop-index-init : goal.loop-index-init
loop-index-init c =
    let s = (goal.at.loop-index-init c).Start in
    begun (line s) (λ (i : ℕ). longest_line * i) c.args.tree.steps (fits s (λ j. (c.type_inv.quotes j).fits)) c.args.out.now c.args.end
    c.requires.stored.2

-- the row's bound is among those lent
there : (c : In-loop-index) → c.loop-index.index - 1 + 1 < length c.args.bounds.now
there c = omega (arith, c.loop-index.invariant.upto, c.requires.bounds_value.1)

pub put_row-start-requires : goal.put_row-start-requires
put_row-start-requires c =
    let pre = c.requires in
    let l = c.loop-index in
    let p = l.invariant in record {
      before_lt_steps = (
        omega (arith, p.upto),
        pre.stored.0,
        pre.stored.1,
        pre.summed (l.index - 1) (omega (arith, p.upto)),
        omega (arith, p.enough),
        omega (arith, p.below, p.same, pre.stored.3),
      );
      bound_value = laws.bound_of_lem _ _ _ _ (l.index - 1 + 1) (l.index - 1) (omega arith) pre.bounds_value.0;
    }

pub loop-index-preserved : goal.loop-index-preserved
loop-index-preserved c =
    gone (line (goal.at.loop-index-preserved c).Start) (λ (i : ℕ). longest_line * i) c.args.tree.steps
    (fits (goal.at.loop-index-preserved c).Start (λ j. (c.type_inv.quotes j).fits)) c.args.out.now c.args.end
    c.loop-index.invariant (omega arith)
    c.put_row-start.ensures

pub returns : goal.returns
returns c =
    ended (line (goal.at.returns c).Start) (λ (i : ℕ). longest_line * i) c.args.tree.steps (fits (goal.at.returns c).Start (λ j. (c.type_inv.quotes j).fits))
    c.args.out.now c.args.end
    c.loop-index.invariant (omega arith)
    c.requires.stored.3

pub offset_bounds-bounds-index : goal.offset_bounds-bounds-index
offset_bounds-bounds-index c = omega (arith, there c)

pub bounds-bounds-index : goal.bounds-bounds-index
bounds-bounds-index c = there (goal.at.bounds-bounds-index c).In-loop-index
