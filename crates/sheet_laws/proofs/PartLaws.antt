-- Laws of rows as parts of a memory that just holds its tree, and of the lines that a call puts.
-- Assumes nothing.
use mathlib.Core.Path.{◌≡◌, refl, sym, ap, ◌∙◌, subst}
use mathlib.Core.Bool.{Bool, true, false}
use mathlib.Core.List.{List, []}
use Prim.Native.Nat.{ℕ, suc, ◌+◌, ◌-◌, ◌*◌, ◌≤◌, ◌<◌, ◌^◌}
use denote.Ref.{Bor}
use native.Mathlib.Omega.{arith}
use native.Mathlib.Numerals.{add-one}
use borrow.Author.Tests.{le-leb}
use lib.ListN.{length, get_or, take, drop, length-append}
use Rattle.limits.specs.Limits.{most_discounts}
use Rattle.arithmetic.specs.Sum.{sum}
use Rattle.arithmetic.specs.Row.{values, sum_of}
use Rattle.arithmetic.proofs.PartLaws.{part_length, part-value}
use Rattle.arithmetic.proofs.SumLaws.{sum-next, sum_grow}
use Rattle.lattice.specs.Shape.{node_count, row_start, discounts_needed, state_prices_needed}
use native.Mathlib.Nat.{mul-le-mul}
use Rattle.lattice.specs.Entries.{node_count_answer}
use Rattle.lattice.proofs.TreeEntries.{row-value}
use Rattle.lattice.proofs.Sizes.{row_ends, start-most, start-suc, count-within}
use Rattle.row_view.specs.declared.RowKind.{RowKind}
use Rattle.row_view.specs.RowView.{is_tree, holds_tree, stores_row, memory_of, is_shown, view_start, view_count, PartOf}
use Rattle.arithmetic.proofs.Implied.{implied}
use Rattle.row_view.proofs.ViewLaws.{is-stored}
use Rattle.text_laws.specs.Put.{Placed}
use Rattle.text_laws.specs.inside.Put.{Put}
use Rattle.std.specs.Prelude.{Result}
use Rattle.std.specs.Result.{IsOk}
use Rattle.arithmetic.specs.declared.Refusal.{Refusal}
use Rattle.node_lines.specs.declared.Places.{Places}
use Rattle.node_lines.specs.Reading.{Drawn, drawn_by}
use Rattle.node_lines.specs.Rows.{node_text, row_text, accepted_nodes}
use Rattle.node_lines.specs.Reading.{nodes_before, read_number}
use Rattle.node_lines.proofs.RowLaws.{lines-room, text-room, part-accepted, row_is, row-number-none}
use Rattle.node_lines.proofs.ReadingLaws.{drawn-ok, Drew, read-number-none, drawn-put, drawn-next}
use Rattle.text_laws.specs.Lines.{row_line, price_line, line_number, bond_word, option_word, longest_line}
use Rattle.text_laws.proofs.LineLaws.{row_room, price-room, line-stands, line_before}
use Rattle.text_laws.proofs.PutLaws.{put-none, put-before, Answered}
use Rattle.price_laws.specs.declared.Price.{Price}
use Rattle.arithmetic.specs.declared.Answer.{Answer}
use Rattle.state_price_bound.specs.ErrorBound.{state_price_error_bound_answer, state_price_error_bounds_answer}
use Rattle.state_price_bound.proofs.BoundLaws.{bound-most}
use Rattle.state_price_bound.proofs.Meaning.{bounds-at}
use Rattle.lent_tree.specs.LentTree.{stored_row}
use Rattle.sheet_laws.specs.TreeSheet.{nodes_of_row, node_lines, line_of_row, row_lines, option_lines, price_lines, tree_sheet}
use Rattle.sheet_laws.specs.inside.Stored.{Lent, Stored, Summed}
use Rattle.node_lines.proofs.LineLoop.{lines_fit}

-- the rows that a memory of just a tree's discounts holds
module _ (n b : ℕ) (discounts : List ℕ) (h : Lent n b discounts) where
  pub discounts-end : (i : ℕ) → i < n → row_start b i + node_count b i ≤ length discounts
  unfolding discounts_needed
  discounts-end i l = omega (arith, row_ends b i n l, h.size)

  pub lines-few : discounts_needed n b ≤ most_discounts
  unfolding discounts_needed
  lines-few = omega (arith, start-most b n, mul-le-mul h.limits.steps-within-limit h.limits.steps-within-limit)

module _ (n b : ℕ) (discounts prices : List ℕ) (h : Stored n b discounts prices) where
  pub tree-held : holds_tree n b discounts prices ≡ true
  unfolding holds_tree is_tree
  tree-held =
      rw (
        le-leb 1 n h.lent.limits.steps-positive,
        le-leb n 60 h.lent.limits.steps-within-limit,
        le-leb b 6000 h.lent.limits.reversion-within-limit,
        le-leb (discounts_needed n b) (length discounts) (omega (arith, h.lent.size)),
        le-leb (state_prices_needed n b) (length prices) (omega (arith, h.prices-size)),
      )

  pub prices-end : (i : ℕ) → i ≤ n → row_start b i + node_count b i ≤ length prices
  unfolding state_prices_needed
  prices-end i l = omega (arith, row_ends b i (suc n) (omega arith), h.prices-size)

-- ---- the part of a row

pub part-size : (b i : ℕ) (memory : List ℕ) → row_start b i + node_count b i ≤ length memory → length (stored_row b memory i) ≡ node_count b i
unfolding stored_row
part-size b i memory h = part_length memory (row_start b i) (node_count b i) h

pub part-below : (b i k bound : ℕ) (memory : List ℕ) → ((j : ℕ) → get_or memory j 0 < bound) → k < node_count b i →
    get_or (stored_row b memory i) k 0 < bound
unfolding stored_row
part-below b i k bound memory each h = rw (part-value memory (row_start b i) (node_count b i) k h) (each (row_start b i + k))

module _ (discounts prices : Bor (List ℕ)) (kind : RowKind) (n b i : ℕ) (part : Bor (List ℕ)) where
  -- the part that the view shows
  abbrev Shown : Type 0
  Shown =
      PartOf (memory_of discounts prices kind) (view_start n b i kind discounts.now prices.now)
      (view_count n b i kind discounts.now prices.now) part

  shown_by : is_shown n b i kind discounts.now prices.now ≡ true → Shown → part.now ≡ stored_row b (memory_of discounts prices kind).now i
  unfolding stored_row view_start view_count
  shown_by s p = rw s at p.contents

  -- the row that the view shows is the part of its memory
  pub shown : Stored n b discounts.now prices.now → stores_row kind n i ≡ true → Shown →
      part.now ≡ stored_row b (memory_of discounts prices kind).now i
  shown h s p = shown_by (is-stored implied (tree-held n b _ _ h) s) p

-- ---- the lines of a row, put by a call

pub row-unrefused : (out : List ℕ) (end b i : ℕ) (memory : List ℕ) (next : ℕ) → i < 60 → accepted_nodes memory ≡ true →
    next ≡ row_start b i + node_count b i → next ≤ length memory → longest_line * node_count b i ≤ end → end ≤ length out →
    read_number (length out) end i memory next (node_count b i) ≡ 0
unfolding nodes_before
row-unrefused out end b i memory next few accepted ends within h p =
    let count = node_count b i in
    let first : next - count ≡ row_start b i = omega arith in
    let size = part_length memory (row_start b i) count (omega arith) in
    let row = row-number-none (length out) end i (take count (drop (row_start b i) memory)) (rw size (row_is b i few)) (omega (arith, size)) p
    (part-accepted memory (row_start b i) count accepted (omega arith)) in
    read-number-none (length out) end i memory next count (omega arith) within (rw first row)

pub row-stands : (out : List ℕ) (end b i : ℕ) (memory : List ℕ) (next : ℕ) {answer : Drawn} {after : List ℕ} → i < 60 → accepted_nodes memory ≡ true →
    next ≡ row_start b i + node_count b i → next ≤ length memory → longest_line * node_count b i ≤ end → end ≤ length out →
    length (nodes_of_row b memory i) ≤ longest_line * node_count b i →
    Drew (read_number (length out) end i memory next (node_count b i)) out end (row_text i (nodes_before memory next (node_count b i)))
    (next - node_count b i) answer after →
    Put out end (nodes_of_row b memory i) answer.start after × (answer.next ≡ row_start b i)
unfolding stored_row nodes_before
row-stands out end b i memory next few accepted ends within h p l d =
    let count = node_count b i in
    let first : next - count ≡ row_start b i = omega arith in
    let z = row-unrefused out end b i memory next few accepted ends within h p in
    let drawn = rw first at d in
    (drawn-put _ out end _ _ drawn z (omega arith) p, drawn-next _ out end _ _ drawn z)

pub row-length : (row : ℕ) (discounts : List ℕ) → row < 2 ^ 64 → length discounts < 2 ^ 63 → ((k : ℕ) → k < length discounts → get_or discounts k 0 < 2 ^ 64) →
    length (row_text row discounts) ≤ longest_line * length discounts
row-length row discounts r s d = lines-room (node_text row discounts) (length discounts) (λ k l. text-room row discounts k r l s (d k l))

-- ---- the sum of a row

pub sum-begun : (row : List ℕ) → 0 ≡ sum 0 (values row)
unfolding sum
sum-begun row = refl

module _ (row : List ℕ) (i s : ℕ) (so_far : s ≡ sum i (values row)) where
  pub sum_more : s + values row i ≡ sum (i + 1) (values row)
  sum_more = omega (arith, sum-next i (values row))

  pub sum-within : i < length row → s + values row i ≤ sum_of row
  unfolding sum_of
  sum-within h = omega (arith, sum-next i (values row), sum_grow (length row) (i + 1) (values row) (omega arith))

  pub sum_done : i ≡ length row → s ≡ sum_of row
  unfolding sum_of
  sum_done e = so_far ∙ ap (λ (n : ℕ). sum n (values row)) e

-- ---- room for the lines

module _ (n b : ℕ) (discounts : List ℕ) (h : Lent n b discounts) (small : (j : ℕ) → get_or discounts j 0 < 2 ^ 64) where
  pub nodes-length : (i : ℕ) → i < n → length (nodes_of_row b discounts i) ≤ longest_line * node_count b i
  nodes-length i l =
      let s = part-size b i discounts (discounts-end n b discounts h i l) in
      let c = count-within b i (omega (arith, h.limits.steps-within-limit)) in
      let long = row-length i (stored_row b discounts i) (omega (arith, h.limits.steps-within-limit)) (omega (arith, s, c))
      (λ k below. part-below b i k (2 ^ 64) discounts small (omega (arith, s))) in
      omega (arith, s, long)

  pub nodes-fit : (i : ℕ) → i < n → longest_line * row_start b i + length (nodes_of_row b discounts i) ≤ longest_line * row_start b (suc i)
  nodes-fit i l = omega (arith, nodes-length i l, start-suc b i)

-- the row above `left`, whose nodes stand before a place; `count` is what the code finds
module _ (n b : ℕ) (discounts : List ℕ) (h : Lent n b discounts) (left place : ℕ) (count : Answer) (some : 0 < left) (upto : left ≤ n)
    (ec : count ≡ node_count_answer b (left - 1)) (ep : place ≡ row_start b left) where
  count-is : count.value ≡ node_count b (left - 1)
  count-is = row-value b (left - 1) _ count ec h.limits.reversion-within-limit (omega (arith, h.limits.steps-within-limit))

  ends : row_start b left ≡ row_start b (left - 1) + node_count b (left - 1)
  ends = let e : suc (left - 1) ≡ left = omega arith in rw e at (start-suc b (left - 1))

  before-end : place ≤ length discounts
  before-end = omega (arith, ends, discounts-end n b discounts h (left - 1) (omega arith))

  -- the row's lines are not refused
  pub before-ok : (out : List ℕ) (end : ℕ) (answer : Result Places Refusal) {after : List ℕ} → longest_line * row_start b left ≤ end → end ≤ length out →
      Drew (read_number (length out) end (left - 1) discounts place count.value) out end
      (row_text (left - 1) (nodes_before discounts place count.value)) (place - count.value) (drawn_by answer) after → IsOk answer
  before-ok out end answer room inside d =
      drawn-ok _ out end _ _ answer d
      (subst (λ (k : ℕ). read_number (length out) end (left - 1) discounts place k ≡ 0) (sym count-is)
      (row-unrefused out end b (left - 1) discounts place (omega (arith, h.limits.steps-within-limit)) h.accepted (ep ∙ ends) before-end
      (omega (arith, ends)) inside))

  -- the row's lines, put by a call that reads its nodes before the place, which goes down to the row's start
  pub before-put : (small : (j : ℕ) → get_or discounts j 0 < 2 ^ 64) (out : List ℕ) (end : ℕ) (answer : Drawn) (after : List ℕ) →
      longest_line * row_start b left ≤ end → end ≤ length out →
      Drew (read_number (length out) end (left - 1) discounts place count.value) out end
      (row_text (left - 1) (nodes_before discounts place count.value)) (place - count.value) answer after →
      Put out end (nodes_of_row b discounts (left - 1)) answer.start after × (answer.next ≡ row_start b (left - 1))
  before-put small out end answer after room inside d =
      let l : left - 1 < n = omega arith in
      row-stands out end b (left - 1) discounts place (omega (arith, h.limits.steps-within-limit)) h.accepted (ep ∙ ends) before-end
      (omega (arith, ends)) inside (nodes-length n b discounts h small (left - 1) l)
      (subst (λ (k : ℕ). Drew (read_number (length out) end (left - 1) discounts place k) out end
      (row_text (left - 1) (nodes_before discounts place k)) (place - k) answer after) count-is d)

module _ (n b : ℕ) (quotes discounts prices : List ℕ) (few : n ≤ 60) (small : (j : ℕ) → get_or quotes j 0 < 2 ^ 64) (summed : Summed n b prices) where
  pub line-length : (i : ℕ) → i < n → length (line_of_row n b quotes discounts prices i) ≤ longest_line
  unfolding line_of_row
  line-length i l =
      row_room (suc i) (values quotes i) (sum_of (stored_row b prices (suc i))) (state_price_error_bound_answer n b discounts (suc i)).value (omega arith) (small i)
      (omega (arith, summed i l)) (omega (arith, bound-most n b discounts (suc i)))

  pub rows_fit : (i : ℕ) → i < n → longest_line * i + length (line_of_row n b quotes discounts prices i) ≤ longest_line * suc i
  rows_fit i l = omega (arith, line-length i l)

-- the bound of a row among those of all rows
pub bound_of_lem : (n b : ℕ) (discounts bounds : List ℕ) (k i : ℕ) → k ≡ suc i → bounds ≡ (state_price_error_bounds_answer n b discounts).bounds →
    values bounds k ≡ (state_price_error_bound_answer n b discounts (suc i)).value
bound_of_lem n b discounts bounds k i e eb =
    ap (λ (l : List ℕ). values l k) eb ∙ bounds-at n b discounts k ∙ ap (λ (j : ℕ). (state_price_error_bound_answer n b discounts j).value) e

-- the line that the code puts is the row's
pub row-line-stands : (n b : ℕ) (quotes discounts prices : List ℕ) (i end added : ℕ) (out after : List ℕ) (bound : ℕ) {answer : Placed} →
    added ≡ sum_of (stored_row b prices (suc i)) → bound ≡ (state_price_error_bound_answer n b discounts (suc i)).value → i < 60 → get_or quotes i 0 < 2 ^ 64 →
    added < 2 ^ 64 → longest_line ≤ end → end ≤ length out →
    Answered (line_number (length out) end) out end (row_line (i + 1) (values quotes i) added bound) answer after →
    Put out end (line_of_row n b quotes discounts prices i) answer.start after
unfolding line_of_row
row-line-stands n b quotes discounts prices i end added out after bound {answer} es eb few q s h p a =
    let sum = sum_of (stored_row b prices (suc i)) in
    let allowed = (state_price_error_bound_answer n b discounts (suc i)).value in
    let same : row_line (i + 1) (values quotes i) added bound ≡ row_line (suc i) (values quotes i) sum allowed = rw (← es, ← eb, add-one i) in
    line-stands out end _ h p
    (row_room (suc i) (values quotes i) sum allowed (omega arith) q (omega arith) (omega (arith, bound-most n b discounts (suc i))))
    (subst (λ (x : List ℕ). Answered (line_number (length out) end) out end x answer after) same a)

-- ---- the lines of the prices

-- each number of a price fits a word
abbrev pub Fits : Price → Type 0
Fits price = (price.value < 2 ^ 64) × (price.bound < 2 ^ 64)

option-length : (present : Bool) (option : Price) → Fits option → length (option_lines present option) ≤ longest_line
option-length true option f = price-room option_word option.value option.bound (omega arith) f.0 f.1
option-length false option f = omega arith

pub option-stands : (out after : List ℕ) (end : ℕ) (present : Bool) (option : Price) {answer : Placed} → present ≡ true → Fits option → longest_line ≤ end →
    end ≤ length out → Answered (line_number (length out) end) out end (option_lines true option) answer after →
    Put out end (option_lines present option) answer.start after
option-stands out after end present option {answer} e f h p a =
    subst (λ (t : Bool). Put out end (option_lines t option) answer.start after) (sym e)
    (line-stands out end _ h p (option-length true option f) a)

pub option-none : (out : List ℕ) (end : ℕ) (present : Bool) (option : Price) → present ≡ false → end ≤ length out →
    Put out end (option_lines present option) end out
option-none out end present option e p = subst (λ (t : Bool). Put out end (option_lines t option) end out) (sym e) (put-none out end p)

pub option-room : {out after : List ℕ} {end mid : ℕ} (present : Bool) (option : Price) → Fits option → 2 * longest_line ≤ end →
    Put out end (option_lines present option) mid after → (longest_line ≤ mid) × (mid ≤ length after)
option-room present option f h p = (omega (arith, option-length present option f, p.place), omega (arith, p.place, p.within, p.same))

pub prices-stand : {out₀ out : List ℕ} {end mid : ℕ} (after : List ℕ) (bond : Price) (present : Bool) (option : Price) {answer : Placed} →
    Fits bond → Fits option → 2 * longest_line ≤ end → Put out₀ end (option_lines present option) mid out →
    Answered (line_number (length out) mid) out mid (price_line bond_word bond.value bond.bound) answer after →
    Put out₀ end (price_lines bond present option) answer.start after
unfolding price_lines
prices-stand after bond present option fb fo h p a =
    line_before _ p (option-room present option fo h p).0 (price-room bond_word bond.value bond.bound (omega arith) fb.0 fb.1) a

pub prices-length : (bond : Price) (present : Bool) (option : Price) → Fits bond → Fits option → length (price_lines bond present option) ≤ 2 * longest_line
unfolding price_lines
prices-length bond present option fb fo =
    simp length-append (omega (arith, option-length present option fo, price-room bond_word bond.value bond.bound (omega arith) fb.0 fb.1))

-- ---- the whole sheet

module _ (n b : ℕ) (quotes discounts prices : List ℕ) (bond : Price) (present : Bool) (option : Price) where
  rows-length : n ≤ 60 → ((j : ℕ) → get_or quotes j 0 < 2 ^ 64) → Summed n b prices → length (row_lines n b quotes discounts prices) ≤ longest_line * n
  rows-length few small summed =
      lines_fit (line_of_row n b quotes discounts prices) (λ (i : ℕ). longest_line * i) n (rows_fit n b quotes discounts prices few small summed) []
      0 n (omega arith)

  module _ {out priced : List ℕ} {end p₁ : ℕ} (h : Stored n b discounts prices) (fb : Fits bond) (fo : Fits option) (long : 468736 ≤ end)
      (p : Put out end (price_lines bond present option) p₁ priced) where
    pub rows-room : (longest_line * n ≤ p₁) × (p₁ ≤ length priced)
    rows-room =
        (omega (arith, h.lent.limits.steps-within-limit, prices-length bond present option fb fo, p.place), omega (arith, p.place, p.within, p.same))

    module _ {rowed : List ℕ} {p₂ : ℕ} (q : Put priced p₁ (row_lines n b quotes discounts prices) p₂ rowed) (small : (j : ℕ) → get_or quotes j 0 < 2 ^ 64)
        (summed : Summed n b prices) where
      pub nodes-room : (longest_line * discounts_needed n b ≤ p₂) × (p₂ ≤ length rowed)
      nodes-room =
          let few = h.lent.limits.steps-within-limit in (
            omega (arith, few, prices-length bond present option fb fo, p.place, q.place, rows-length few small summed, lines-few n b discounts h.lent),
            omega (arith, q.place, q.within, q.same),
          )

  pub sheet-stands : {out priced rowed after : List ℕ} {end p₁ p₂ p₃ : ℕ} → Put out end (price_lines bond present option) p₁ priced →
      Put priced p₁ (row_lines n b quotes discounts prices) p₂ rowed → Put rowed p₂ (node_lines n b discounts) p₃ after →
      Put out end (tree_sheet n b quotes discounts prices bond present option) p₃ after
  unfolding tree_sheet
  sheet-stands p q r = put-before (put-before p q) r
