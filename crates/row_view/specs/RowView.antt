-- The row view (document 01, Spacing and fit): either kind of row is shown as the part of the lent memory that contains it.
-- Assumes nothing.
use Rattle.std.specs.Prelude.{ℕ, ◌+◌, ◌*◌, Bool, cond, ◌&&◌, List, ◌≡◌, eqb, leb, ltb, length, take, drop}
use Rattle.std.specs.Borrow.{Bor}
use Rattle.limits.specs.Limits.{is_steps, is_reversion}
use Rattle.lattice.specs.Shape.{node_count, row_start, discounts_needed, state_prices_needed}
use Rattle.row_view.specs.declared.RowKind.{RowKind}
use Rattle.row_view.specs.declared.RowKind.TheVariants.{Discounts, StatePrices}
use Rattle.row_view.specs.declared.RowRange.{RowRange}

-- n is 1 to 60, b at most 6,000
unfoldable pub is_tree : ℕ → ℕ → Bool
is_tree n b = is_steps n && is_reversion b

-- both memories are long enough for the tree, whichever is shown
unfoldable pub holds_tree : ℕ → ℕ → List ℕ → List ℕ → Bool
holds_tree n b discounts prices =
    is_tree n b && leb (discounts_needed n b) (length discounts) && leb (state_prices_needed n b) (length prices)

-- discounts exist for rows 0 to n − 1, state prices for rows 0 to n
abbrev pub stores_row : RowKind → ℕ → ℕ → Bool
stores_row Discounts n i = ltb i n
stores_row StatePrices n i = leb i n

-- the lent memory of each kind
abbrev pub memory_of : {A : Type 0} → A → A → RowKind → A
memory_of discounts prices Discounts = discounts
memory_of discounts prices StatePrices = prices

-- the row is shown, and not refused
unfoldable pub is_shown : ℕ → ℕ → ℕ → RowKind → List ℕ → List ℕ → Bool
is_shown n b i kind discounts prices = holds_tree n b discounts prices && stores_row kind n i

-- where the shown part starts, and how many nodes it has: those of the row; a refusal is the empty part at the start
unfoldable pub view_start : ℕ → ℕ → ℕ → RowKind → List ℕ → List ℕ → ℕ
view_start n b i kind discounts prices = cond (is_shown n b i kind discounts prices) (row_start b i) 0

unfoldable pub view_count : ℕ → ℕ → ℕ → RowKind → List ℕ → List ℕ → ℕ
view_count n b i kind discounts prices = cond (is_shown n b i kind discounts prices) (node_count b i) 0

-- both as one answer
abbrev pub range_of_row : ℕ → ℕ → ℕ → RowKind → List ℕ → List ℕ → RowRange
range_of_row n b i kind discounts prices =
    record { start = view_start n b i kind discounts prices; count = view_count n b i kind discounts prices }

abbrev pub no_range : RowRange
no_range = record { start = 0; count = 0 }

-- the same, the kind told by its number: 1 discounts, 2 state prices; any other is refused
unfoldable pub range_by_number : ℕ → ℕ → ℕ → ℕ → List ℕ → List ℕ → RowRange
range_by_number n b i kind discounts prices =
    cond (eqb kind 1) (range_of_row n b i Discounts discounts prices)
    (cond (eqb kind 2) (range_of_row n b i StatePrices discounts prices)
    no_range)

-- the caller's own part: a reference into the same block, at element start, with count elements; an element takes 8 bytes
pub record PartOf (whole : Bor (List ℕ)) (start count : ℕ) (part : Bor (List ℕ)) : Type 0 where
  pub block : part.ref_ptr.0 ≡ whole.ref_ptr.0
  pub offset : part.ref_ptr.1 ≡ start * 8 + whole.ref_ptr.1
  pub contents : part.now ≡ take count (drop start whole.now)
