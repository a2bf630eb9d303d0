use mathlib.Core.Path.{◌≡◌, refl, sym, ap, ◌∙◌, subst}
use Prim.Native.Nat.{ℕ, suc, ◌≤◌, ◌<◌, ◌+◌, ◌-◌, ◌*◌, ◌/◌, ◌^◌}
use native.Mathlib.Omega.{arith}
use lib.ListN.{length, get_or}
use Rattle.lattice.specs.RateTree.{node_of_index}
use Rattle.text_laws.specs.Lines.{line_of_node, longest_line}
use Rattle.text_laws.specs.inside.Put.{Put}
use Rattle.node_lines.specs.Rows.{node_text, lines}
use Rattle.node_lines.specs.Reading.{nodes_before}
use Rattle.node_lines.proofs.RowLaws.{discount-read, node-there, line-room}
use Rattle.node_lines.proofs.LineLoop.{begun, gone, ended}
use Rattle.node_lines.proofs.ReadingLaws.{before-length, before_text, before-discount, drawn-whole}
use Rattle.node_lines.proofs.put_row_nodes.Goals as goal
use Rattle.node_lines.proofs.put_row_nodes.Goals.{After-unwrap-discount, Start}

clauses-answer-memory : {A B : Type 0} → A × B → record { answer : A; memory : B }
clauses-answer-memory w = record { answer = w.0; memory = w.1 }

fits : (c : Start) → ((k : ℕ) → get_or c.args.discounts.now k 0 < 2 ^ 64) → (i : ℕ) → i < c.args.count →
    let a = c.args in
    longest_line * i + length (node_text a.row (nodes_before a.discounts.now a.next a.count) i) ≤ longest_line * suc i
fits c known i h =
    let a = c.args in
    let text = before_text a.discounts.now a.next a.count c.requires.standing c.requires.next-within a.row i h in
    let few = c.requires.within-row in
    let room = line-room a.row (a.count / 2) i (get_or a.discounts.now (a.next - a.count + i) 0) c.ranges.row.fits (omega arith) (omega arith)
    (known (a.next - a.count + i)) in
    omega (arith, ap length text, room)

pub loop-index-init : goal.loop-index-init
loop-index-init c =
    let a = c.args in
    begun _ (λ (i : ℕ). longest_line * i) a.count (fits (goal.at.loop-index-init c).Start (λ k. (c.type_inv.discounts k).fits)) a.out.now a.end c.requires.room

pub unwrap-discount-requires : goal.unwrap-discount-requires
unwrap-discount-requires c = node-there _ _ c.node_at.result c.node_at.ensures (omega arith)

read : (c : After-unwrap-discount) → let a = c.args in
    c.unwrap-discount.result ≡ get_or a.discounts.now (a.next - a.count + (c.loop-index.index - 1)) 0
read c =
    let a = c.args in
    let within : a.next - a.count + (c.loop-index.index - 1) < length a.discounts.now = omega arith in
    discount-read a.discounts.now (a.next - a.count + (c.loop-index.index - 1)) _ (rw c.unwrap-discount.ensures at c.node_at.ensures) within

pub put_node_line-start-requires : goal.put_node_line-start-requires
put_node_line-start-requires c =
    let a = c.args in
    let l = c.loop-index in
    let p = l.invariant in
    let discount = before-discount a.discounts.now a.next a.count c.requires.standing c.requires.next-within c.requires.accepted (l.index - 1)
    (omega (arith, p.upto)) in
    let same = read (goal.at.put_node_line-start-requires c).After-unwrap-discount in (
      omega (arith, c.requires.within-row),
      omega (arith, c.requires.within-row, p.upto),
      omega (arith, same, discount.0),
      omega (arith, same, discount.1),
      omega (arith, p.enough),
      omega (arith, p.below, p.same, c.requires.inside),
    )

pub loop-index-preserved : goal.loop-index-preserved
loop-index-preserved c =
    let a = c.args in
    let l = c.loop-index in
    let p = l.invariant in
    let some : 0 < l.index = omega arith in
    let text = ap (λ (d : ℕ). line_of_node a.row (node_of_index (a.count / 2) (l.index - 1)) d) (read (goal.at.loop-index-preserved c).After-unwrap-discount)
    ∙ before_text a.discounts.now a.next a.count c.requires.standing c.requires.next-within a.row (l.index - 1) (omega (arith, p.upto)) in
    gone _ (λ (i : ℕ). longest_line * i) a.count (fits (goal.at.loop-index-preserved c).Start (λ k. (c.type_inv.discounts k).fits)) a.out.now a.end p some
    (rw text at c.put_node_line-start.ensures)

pub returns : goal.returns
returns c =
    let a = c.args in
    let l = c.loop-index in
    let none : l.index ≡ 0 = omega arith in
    let put =
    ended _ (λ (i : ℕ). longest_line * i) a.count (fits (goal.at.returns c).Start (λ k. (c.type_inv.discounts k).fits))
    a.out.now a.end l.invariant none c.requires.inside in
    let counted = before-length a.discounts.now a.next a.count c.requires.standing c.requires.next-within in
    let line = node_text a.row (nodes_before a.discounts.now a.next a.count) in
    clauses-answer-memory (drawn-whole 0 a.out.now a.end _ (a.next - a.count)
    (subst (λ (n : ℕ). Put a.out.now a.end (lines line n) l.start l.out) (sym counted) put) refl)
