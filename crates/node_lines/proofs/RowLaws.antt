-- Laws of the lines of a row: how long they are, one line less, and what a call leaves.
-- Assumes nothing.
use mathlib.Core.Path.{◌≡◌, refl, sym, ap, ◌∙◌, subst}
use mathlib.Core.Bool.{Bool, true, false, cond, ◌&&◌}
use mathlib.Core.List.{List, [], ◌++◌}
use Prim.Native.Nat.{ℕ, zero, suc, ◌+◌, ◌-◌, ◌*◌, ◌/◌, ◌%◌, ◌≤◌, ◌<◌, ◌^◌}
use native.Mathlib.Omega.{arith}
use borrow.Author.Tests.{lt-ltb, le-leb, lt-leb, leb-true, eq-eqb, ne_eqb}
use lib.Dec.{eqb, leb}
use lib.IntN.{ℤ, pos, sub_ℕ, ◌-ℤ◌}
use lib.ListN.{length, get_or, take, drop, length-append}
use mir.Syntax.{w64}
use mir.Val.{SFits, to_z}
use mir.Facts.{to_z_pos}
use Rattle.std.specs.Prelude.{Result, Ok, Err}
use Rattle.std.specs.Result.{IsOk}
use Rattle.arithmetic.specs.Row.{values, each, between}
use Rattle.arithmetic.proofs.BetweenLaws.{between-least, between-most}
use Rattle.arithmetic.proofs.PartLaws.{part_length, part-value}
use Rattle.arithmetic.proofs.RefusalLaws.{refusal-some}
use Rattle.arithmetic.proofs.RowLaws.{each_holds}
use Rattle.arithmetic.specs.declared.Refusal.{Refusal}
use Rattle.limits.specs.Limits.{most_discount}
use Rattle.arithmetic.proofs.Signed.{fits-by-size}
use Rattle.lattice.specs.RateTree.{node_of_index}
use Rattle.lattice.specs.Shape.{half_width, node_count}
use Rattle.lattice.proofs.Sizes.{half-within}
use Rattle.lattice.proofs.Differences.{sub_is, sub-size}
use Rattle.node_reader.specs.Reading.{Node, node_at, node_of}
use Rattle.text_laws.specs.Lines.{line_of_node, node_number, longest_line}
use Rattle.text_laws.specs.Put.{Placed, put_before}
use Rattle.text_laws.specs.inside.Put.{Put}
use Rattle.text_laws.proofs.LineLaws.{node-line-room, node-stands}
use Rattle.text_laws.proofs.PutLaws.{put-joined, Answered}
use Rattle.node_lines.specs.Rows.{node_text, lines, has_room_for, is_row, accepted_nodes, row_number}

pub lines_none : (line : ℕ → List ℕ) (n : ℕ) → n ≡ 0 → lines line n ≡ []
unfolding lines
lines_none line n e = rw e

-- the last line
pub lines_step : (line : ℕ → List ℕ) (n : ℕ) → 0 < n → lines line n ≡ lines line (n - 1) ++ line (n - 1)
unfolding lines
lines_step line zero h = let none : ⊥ = omega arith in absurd none
lines_step line (suc n) h = let e : suc n - 1 ≡ n = omega arith in rw e

pub lines-room : (line : ℕ → List ℕ) (n : ℕ) → ((k : ℕ) → k < n → length (line k) ≤ longest_line) → length (lines line n) ≤ longest_line * n
unfolding lines
lines-room line zero h = omega arith
lines-room line (suc n) h = simp length-append (omega (arith, h n (omega arith), lines-room line n (λ k l. h k (omega arith))))

-- the line of a node is no longer than 128 bytes
pub line-room : (row w k discount : ℕ) → row < 2 ^ 64 → w < 2 ^ 62 → k < 2 ^ 62 → discount < 2 ^ 64 →
    length (line_of_node row (node_of_index w k) discount) ≤ longest_line
unfolding node_of_index
line-room row w k discount r v h d = node-line-room row discount _ r d (omega (arith, sub-size k w))

pub text-room : (row : ℕ) (discounts : List ℕ) (k : ℕ) → row < 2 ^ 64 → k < length discounts → length discounts < 2 ^ 63 → get_or discounts k 0 < 2 ^ 64
    → length (node_text row discounts k) ≤ longest_line
unfolding node_text node_of_index
text-room row discounts k r h l d = node-line-room row (get_or discounts k 0) _ r d (omega (arith, sub-size k (length discounts / 2)))

-- ---- the node that the code works out

machine-sub : (k w : ℕ) → k < 2 ^ 62 → w < 2 ^ 62 → to_z w64 k -ℤ to_z w64 w ≡ pos k -ℤ pos w
machine-sub k w h l =
    ap (λ (z : ℤ). z -ℤ to_z w64 w) (to_z_pos w64 {n = k} (omega arith)) ∙ ap (λ (z : ℤ). pos k -ℤ z) (to_z_pos w64 {n = w} (omega arith))

pub node-fits : (k w : ℕ) → k < 2 ^ 62 → w < 2 ^ 62 → SFits w64 (to_z w64 k -ℤ to_z w64 w)
node-fits k w h l =
    subst (λ (z : ℤ). SFits w64 z) (sub_is k w ∙ sym (machine-sub k w h l)) (fits-by-size (sub_ℕ k w) (omega (arith, sub-size k w)))

pub node-is : (k w : ℕ) → k < 2 ^ 62 → w < 2 ^ 62 → to_z w64 k -ℤ to_z w64 w ≡ node_of_index w k
unfolding node_of_index
node-is k w h l = machine-sub k w h l ∙ sym (sub_is k w)

-- ---- the node that the reader finds

pub discount-read : (discounts : List ℕ) (k : ℕ) (node : Node) → node ≡ node_at discounts k → k < length discounts → node.discount ≡ get_or discounts k 0
discount-read discounts k node e h = ap (λ (n : Node). n.discount) e ∙ rw (lt-ltb k (length discounts) h)

-- it is there
pub node-there : (discounts : List ℕ) (k : ℕ) (node : Result ℕ Refusal) → node_of node ≡ node_at discounts k → k < length discounts → IsOk node
node-there discounts k (Ok discount) e h = refl
node-there discounts k (Err refusal) e h =
    absurd (refusal-some refusal (ap (λ (n : Node). n.number) e ∙ rw (lt-ltb k (length discounts) h)))

pub row-discount : (discounts : List ℕ) (k : ℕ) → accepted_nodes discounts ≡ true → k < length discounts →
    (1 ≤ get_or discounts k 0) × (get_or discounts k 0 ≤ most_discount)
unfolding accepted_nodes
row-discount discounts k e h =
    let t = each_holds (length discounts) k (between 1 most_discount (values discounts)) e h in
    (between-least 1 most_discount (values discounts) k t, between-most 1 most_discount (values discounts) k t)

-- the line that the code puts is the node's
pub line-put : (out after : List ℕ) (row end w k discount : ℕ) (node : ℤ) {answer : Placed} → node ≡ node_of_index w k
    → length (line_of_node row (node_of_index w k) discount) ≤ longest_line → longest_line ≤ end → end ≤ length out → 0 < discount → discount ≤ most_discount
    → Answered (node_number (length out) end discount) out end (line_of_node row node discount) answer after
    → Put out end (line_of_node row (node_of_index w k) discount) answer.start after
line-put out after row end w k discount node {answer} e r h p l m a =
    node-stands out end row discount (node_of_index w k) h p l m r
    (subst (λ (z : ℤ). Answered (node_number (length out) end discount) out end (line_of_node row z discount) answer after) e a)

-- ---- one line less is left

pub line-less : (line : ℕ → List ℕ) (out after whole : List ℕ) (start left mid : ℕ) → 0 < left → length (lines line left) ≤ start
    → Put out start (line (left - 1)) mid after → put_before out start (lines line left) ≡ whole → put_before after mid (lines line (left - 1)) ≡ whole
line-less line out after whole start left mid h l p e =
    let s = lines_step line left h in
    let n : length (lines line left) ≡ length (lines line (left - 1)) + length (line (left - 1)) = ap length s ∙ simp length-append in
    let m : mid ≡ start - length (line (left - 1)) = omega (arith, p.place) in
    ap (λ (o : List ℕ). put_before o mid (lines line (left - 1))) p.memory
    ∙ ap (λ (i : ℕ). put_before (put_before out start (line (left - 1))) i (lines line (left - 1))) m
    ∙ put-joined out (line (left - 1)) (lines line (left - 1)) start (omega arith) p.within
    ∙ ap (λ (t : List ℕ). put_before out start t) (sym s) ∙ e

pub length-less : (line : ℕ → List ℕ) (left : ℕ) → 0 < left → length (lines line left) ≡ length (lines line (left - 1)) + length (line (left - 1))
length-less line left h = ap length (lines_step line left h) ∙ simp length-append

-- ---- room for the lines

pub room-short : (n size end : ℕ) → end / longest_line < n → has_room_for n size end ≡ false
unfolding has_room_for
room-short n size end h = rw (lt-leb (longest_line * n) end (omega arith))

pub room-test : (n size end : ℕ) → n ≤ end / longest_line → has_room_for n size end ≡ leb end size
unfolding has_room_for
room-test n size end h = rw (le-leb (longest_line * n) end (omega arith))

pub room-there : (n size end : ℕ) → longest_line * n ≤ end → end ≤ size → has_room_for n size end ≡ true
unfolding has_room_for
room-there n size end h p = rw (le-leb (longest_line * n) end h, le-leb end size p)

-- ---- the number of a row

module _ (row count : ℕ) where
  pub row-late : 59 < row → is_row row count ≡ false
  unfolding is_row
  row-late h = rw (lt-leb row 59 h)

  pub row-even : row ≤ 59 → (count % 2 ≡ 1 → ⊥) → is_row row count ≡ false
  unfolding is_row
  row-even h odd = rw (le-leb row 59 h, ne_eqb (count % 2) 1 odd)

  pub row-test : row ≤ 59 → count % 2 ≡ 1 → is_row row count ≡ leb count (2 * row + 1)
  unfolding is_row
  row-test h odd = rw (le-leb row 59 h, eq-eqb (count % 2) 1 odd)

pub and_both : (a b : Bool) → (a && b) ≡ true → (a ≡ true) × (b ≡ true)
and_both true true e = (refl, refl)
and_both true false e = let z : ◌≡◌ {A = ℕ} 0 1 = cc in let none : ⊥ = omega arith in absurd none
and_both false b e = let z : ◌≡◌ {A = ℕ} 0 1 = cc in let none : ⊥ = omega arith in absurd none

row-parts : (a b : Bool) → ◌≡◌ {A = ℕ} (cond a (cond b 0 9) 6) 0 → (a ≡ true) × (b ≡ true)
row-parts true true e = (refl, refl)
row-parts true false e = let none : ⊥ = omega arith in absurd none
row-parts false b e = let none : ⊥ = omega arith in absurd none

module _ (size end row : ℕ) (discounts : List ℕ) where
  pub row-none : is_row row (length discounts) ≡ false → 6 ≡ row_number size end row discounts
  unfolding row_number
  row-none e = sym (rw e)

  pub row-short : is_row row (length discounts) ≡ true → has_room_for (length discounts) size end ≡ false → 6 ≡ row_number size end row discounts
  unfolding row_number
  row-short e r = sym (rw (e, r))

  pub row-judged : is_row row (length discounts) ≡ true → has_room_for (length discounts) size end ≡ true → (t : Bool) → accepted_nodes discounts ≡ t
      → cond t 0 9 ≡ row_number size end row discounts
  unfolding row_number
  row-judged e r t a = sym (rw (e, r, a))

  module _ (z : row_number size end row discounts ≡ 0) where
    parts : ((is_row row (length discounts) && has_room_for (length discounts) size end) ≡ true) × (accepted_nodes discounts ≡ true)
    unfolding row_number
    parts = row-parts _ _ z

    pub row_room : (longest_line * length discounts ≤ end) × (end ≤ size)
    unfolding has_room_for
    row_room =
        let room = and_both (leb (longest_line * length discounts) end) (leb end size) (and_both (is_row row (length discounts)) _ parts.0).1 in
        (leb-true (longest_line * length discounts) end room.0, leb-true end size room.1)

    pub row-accepted : accepted_nodes discounts ≡ true
    row-accepted = parts.1

    -- row 59, the last that has discounts, has at most 119 nodes
    pub row_within : length discounts ≤ 119
    unfolding is_row
    row_within =
        let count = length discounts in
        let shaped = and_both (leb row 59) (eqb (count % 2) 1 && leb count (2 * row + 1))
        (and_both (is_row row count) (has_room_for count size end) parts.0).0 in
        let wide = and_both (eqb (count % 2) 1) (leb count (2 * row + 1)) shaped.1 in
        omega (arith, leb-true row 59 shaped.0, leb-true count (2 * row + 1) wide.1)

-- the test that the code makes
pub accepted-found : (discounts : List ℕ) (t : Bool) → t ≡ each (length discounts) (between 1 most_discount (values discounts)) →
    accepted_nodes discounts ≡ t
unfolding accepted_nodes
accepted-found discounts t e = sym e

-- ---- a row of a tree's memory

each-every : (n : ℕ) (test : ℕ → Bool) → ((k : ℕ) → k < n → test k ≡ true) → each n test ≡ true
unfolding each
each-every zero test h = refl
each-every (suc n) test h = rw (each-every n test (λ k l. h k (omega arith)), h n (omega arith))

pub part-accepted : (memory : List ℕ) (start count : ℕ) → accepted_nodes memory ≡ true → start + count ≤ length memory →
    accepted_nodes (take count (drop start memory)) ≡ true
unfolding accepted_nodes
part-accepted memory start count e h =
    rw (part_length memory start count h)
    (each-every count _ (λ k l. ap (λ (v : ℕ). leb 1 v && leb v most_discount) (part-value memory start count k l)
    ∙ each_holds (length memory) (start + k) (between 1 most_discount (values memory)) e (omega arith)))

pub row_is : (b i : ℕ) → i < 60 → is_row i (node_count b i) ≡ true
unfolding is_row node_count
row_is b i h =
    let w = half_width b i in
    let odd : (2 * w + 1) % 2 ≡ 1 = omega arith in
    rw (le-leb i 59 (omega arith), odd, le-leb (2 * w + 1) (2 * i + 1) (omega (arith, half-within b i)))

pub row-number-none : (size end row : ℕ) (discounts : List ℕ) → is_row row (length discounts) ≡ true → longest_line * length discounts ≤ end → end ≤ size →
    accepted_nodes discounts ≡ true → row_number size end row discounts ≡ 0
row-number-none size end row discounts e h p a = sym (row-judged size end row discounts e (room-there (length discounts) size end h p) true a)
