-- Laws of the row view.
-- Assumes nothing.
use mathlib.Core.Path.{◌≡◌, refl, ap, ◌∙◌}
use Prim.Native.Nat.{ℕ, suc, ◌+◌, ◌-◌, ◌≤◌, ◌<◌}
use mathlib.Core.Bool.{Bool, true, false, cond, ◌&&◌, and-false}
use mathlib.Core.List.{List}
use denote.Ref.{Bor}
use native.Mathlib.Omega.{arith}
use lib.Dec.{leb}
use lib.ListN.{length, take, drop, length-drop}
use lib.Seq.{length-take-le, get_or-take, get_or-drop}
use borrow.Author.Tests.{ltb-true, leb-true, le-leb, lt-leb, eq-eqb, ne_eqb}
use Rattle.limits.specs.WithinLimits.{WithinLimits}
use Rattle.arithmetic.specs.Row.{values}
use Rattle.arithmetic.specs.declared.Answer.{Answer}
use Rattle.arithmetic.proofs.BetweenLaws.{and_left, and_right}
use Rattle.arithmetic.proofs.Implied.{Implied, lastly, ◌▸◌}
use Rattle.lattice.specs.Shape.{node_count, row_start, discounts_needed, state_prices_needed}
use Rattle.lattice.specs.Entries.{about_tree}
use Rattle.lattice.proofs.Sizes.{row_ends}
use Rattle.row_view.specs.declared.RowKind.{RowKind}
use Rattle.row_view.specs.declared.RowKind.TheVariants.{Discounts, StatePrices}
use Rattle.row_view.specs.declared.RowRange.{RowRange}
use Rattle.row_view.specs.RowView.{is_tree, holds_tree, stores_row, memory_of, is_shown, view_start, view_count, range_of_row, no_range, range_by_number, PartOf}
use Rattle.lattice.proofs.TreeEntries.{by-tree}

-- ---- whether both memories hold the tree, by the tests that code makes

module _ {discounts prices : List ℕ} {n b : ℕ} (_ : Implied (discounts ▸ prices ▸ n ▸ lastly b)) where
  no-tree : is_tree n b ≡ false → false ≡ holds_tree n b discounts prices
  unfolding holds_tree
  no-tree h = rw h

  pub refused-tree : (x : ℕ) (a : Answer) → a ≡ about_tree n b x → (a.number ≡ 0 → ⊥) → false ≡ holds_tree n b discounts prices
  unfolding is_tree
  refused-tree x a e nz =
      by-tree n b x (λ r. (r.number ≡ 0 → ⊥) → false ≡ holds_tree n b discounts prices)
      (λ z k. no-tree (simp (lt-leb 1 n (omega arith))))
      (λ h k. no-tree (simp (lt-leb n 60 h, and-false)))
      (λ p h s k. no-tree (simp (lt-leb b 6000 s, and-false)))
      (λ l k. absurd (k refl))
      (λ z. nz (ap (λ (r : Answer). r.number) e ∙ z))

  module _ (l : WithinLimits n b) where
    a-tree : is_tree n b ≡ true
    unfolding is_tree
    a-tree = simp (le-leb 1 n l.steps-positive, le-leb n 60 l.steps-within-limit, le-leb b 6000 l.reversion-within-limit)

    pub short-discounts : (x : ℕ) → x ≡ discounts_needed n b → length discounts < x → false ≡ holds_tree n b discounts prices
    unfolding holds_tree
    short-discounts x e h = rw (a-tree, lt-leb (discounts_needed n b) (length discounts) (omega arith))

    pub long-discounts : (x y : ℕ) → x ≡ discounts_needed n b → y ≡ state_prices_needed n b → x ≤ length discounts →
        leb y (length prices) ≡ holds_tree n b discounts prices
    unfolding holds_tree
    long-discounts x y e f h = rw (a-tree, le-leb (discounts_needed n b) (length discounts) (omega arith), f)

-- what memories that hold the tree tell
pub record Holding (discounts prices : List ℕ) (n b : ℕ) : Type 0 where
  pub limits : WithinLimits n b
  pub discounts-room : row_start b n ≤ length discounts
  pub prices-room : row_start b (suc n) ≤ length prices

pub holding : (discounts prices : List ℕ) (n b : ℕ) → holds_tree n b discounts prices ≡ true → Holding discounts prices n b
unfolding holds_tree is_tree discounts_needed state_prices_needed
holding discounts prices n b h =
    let t₁ = leb 1 n in
    let t₂ = leb n 60 in
    let t₃ = leb b 6000 in
    let t₄ = leb (row_start b n) (length discounts) in
    let t₅ = leb (row_start b (suc n)) (length prices) in
    let room = and_left (t₁ && t₂ && t₃ && t₄) t₅ h in
    let tree = and_left (t₁ && t₂ && t₃) t₄ room in
    let steps = and_left (t₁ && t₂) t₃ tree in
    record {
      limits = record {
        steps-positive = leb-true 1 n (and_left t₁ t₂ steps);
        steps-within-limit = leb-true n 60 (and_right t₁ t₂ steps);
        reversion-within-limit = leb-true b 6000 (and_right (t₁ && t₂) t₃ tree);
      };
      discounts-room = leb-true (row_start b n) (length discounts) (and_right (t₁ && t₂ && t₃) t₄ room);
      prices-room = leb-true (row_start b (suc n)) (length prices) (and_right (t₁ && t₂ && t₃ && t₄) t₅ h);
    }

-- ---- the shown part

module _ (discounts prices : Bor (List ℕ)) (kind : RowKind) (n b i : ℕ) where
  -- a stored row ends within its memory
  pub row_room : Holding discounts.now prices.now n b → stores_row kind n i ≡ true →
      (b ≤ 6000) × (i ≤ 60) × (row_start b i + node_count b i ≤ length (memory_of discounts prices kind).now)
  row_room h = go kind
    where
      go : (kind : RowKind) → stores_row kind n i ≡ true →
          (b ≤ 6000) × (i ≤ 60) × (row_start b i + node_count b i ≤ length (memory_of discounts prices kind).now)
      go Discounts s =
          let l : i < n = ltb-true i n s in
          omega (arith, h, row_ends b i n l)
      go StatePrices s =
          let l : i ≤ n = leb-true i n s in
          omega (arith, h, row_ends b i (suc n) (omega arith))

module _ {discounts prices : List ℕ} {kind : RowKind} {n b i : ℕ} (_ : Implied (discounts ▸ prices ▸ kind ▸ n ▸ b ▸ lastly i)) where
  pub not-held : holds_tree n b discounts prices ≡ false → is_shown n b i kind discounts prices ≡ false
  unfolding is_shown
  not-held h = rw h

  pub not-stored : stores_row kind n i ≡ false → is_shown n b i kind discounts prices ≡ false
  unfolding is_shown
  not-stored h = simp (h, and-false)

  pub is-stored : holds_tree n b discounts prices ≡ true → stores_row kind n i ≡ true → is_shown n b i kind discounts prices ≡ true
  unfolding is_shown
  is-stored h s = simp (h, s)

  -- the range of a row, by whether the row is shown
  pub hidden-range : is_shown n b i kind discounts prices ≡ false → no_range ≡ range_of_row n b i kind discounts prices
  unfolding view_start view_count
  hidden-range h = rw h

  pub shown-range : (start count : ℕ) → is_shown n b i kind discounts prices ≡ true → start ≡ row_start b i → count ≡ node_count b i →
      ◌≡◌ {A = RowRange} (record { start = start; count = count }) (range_of_row n b i kind discounts prices)
  unfolding view_start view_count
  shown-range start count h p q = rw (h, p, q)

-- the range by the kind's number
module _ {discounts prices : List ℕ} {kind n b i : ℕ} (_ : Implied (discounts ▸ prices ▸ kind ▸ n ▸ b ▸ lastly i)) where
  pub numbered-discounts : kind ≡ 1 → range_of_row n b i Discounts discounts prices ≡ range_by_number n b i kind discounts prices
  unfolding range_by_number
  numbered-discounts h = simp (eq-eqb kind 1 h)

  module _ (h : kind ≡ 1 → ⊥) where
    pub numbered-prices : kind ≡ 2 → range_of_row n b i StatePrices discounts prices ≡ range_by_number n b i kind discounts prices
    unfolding range_by_number
    numbered-prices k = simp (ne_eqb kind 1 h, eq-eqb kind 2 k)

    pub numbered-otherwise : (kind ≡ 2 → ⊥) → no_range ≡ range_by_number n b i kind discounts prices
    unfolding range_by_number
    numbered-otherwise k = simp (ne_eqb kind 1 h, ne_eqb kind 2 k)

-- the part between a start and an end that code has computed
pub part-between : (memory : List ℕ) (start count : ℕ) → take (start + count - start) (drop start memory) ≡ take count (drop start memory)
part-between memory start count = let e : start + count - start ≡ count = omega arith in rw e

-- ---- what callers use of a part and of the view

module _ (whole : Bor (List ℕ)) (start count : ℕ) (part : Bor (List ℕ)) (p : PartOf whole start count part) where
  pub part_length : start + count ≤ length whole.now → length part.now ≡ count
  part_length h =
      let room : count ≤ length (drop start whole.now) = simp length-drop (omega arith) in
      ap length p.contents ∙ length-take-le count (drop start whole.now) room

  pub part-value : (k : ℕ) → k < count → values part.now k ≡ values whole.now (start + k)
  part-value k h = rw (p.contents, get_or-take, get_or-drop)

module _ {discounts prices : Bor (List ℕ)} {kind : RowKind} {n b i : ℕ} (_ : Implied (discounts ▸ prices ▸ kind ▸ n ▸ b ▸ lastly i)) where
  pub view-within :
      view_start n b i kind discounts.now prices.now + view_count n b i kind discounts.now prices.now
      ≤ length (memory_of discounts prices kind).now
  unfolding view_start view_count is_shown
  view-within = go (holds_tree n b discounts.now prices.now) (stores_row kind n i) refl refl
    where
      go : (t u : Bool) → holds_tree n b discounts.now prices.now ≡ t → stores_row kind n i ≡ u →
          cond (t && u) (row_start b i) 0 + cond (t && u) (node_count b i) 0 ≤ length (memory_of discounts prices kind).now
      go true true h s = (row_room discounts prices kind n b i (holding _ _ _ _ h) s).2
      go true false h s = omega arith
      go false u h s = omega arith

  module _ {memory : Bor (List ℕ)} (e : memory ≡ memory_of discounts prices kind)
      {r : RowRange} (q : r ≡ range_of_row n b i kind discounts.now prices.now) where
    starts : r.start ≡ view_start n b i kind discounts.now prices.now
    starts = ap (λ (x : RowRange). x.start) q

    counts : r.count ≡ view_count n b i kind discounts.now prices.now
    counts = ap (λ (x : RowRange). x.count) q

    pub range-within : r.start + r.count ≤ length memory.now
    range-within = rw (starts, counts, e) view-within

    pub range-part : {part : Bor (List ℕ)} → PartOf memory r.start r.count part →
        PartOf (memory_of discounts prices kind) (view_start n b i kind discounts.now prices.now)
        (view_count n b i kind discounts.now prices.now) part
    range-part p = rw (← starts, ← counts, ← e) p
