-- The node lines of a row (document 01, Job and sheet: lowest node first).
-- Assumes nothing.
use Rattle.std.specs.Prelude.{ℕ, zero, suc, ◌+◌, ◌*◌, ◌/◌, ◌%◌, Bool, cond, ◌&&◌, List, [], ◌++◌, eqb, leb, length, get_or}
use Rattle.text_laws.specs.Lines.{longest_line, line_of_node}
use Rattle.limits.specs.Limits.{all_discounts}
use Rattle.lattice.specs.RateTree.{node_of_index}

-- the line of the node at an index; the row's half width follows from its node count, 2 w + 1
unfoldable pub node_text : ℕ → List ℕ → ℕ → List ℕ
node_text row discounts k = line_of_node row (node_of_index (length discounts / 2) k) (get_or discounts k 0)

-- the first n lines, one after the other
unfoldable pub lines : (ℕ → List ℕ) → ℕ → List ℕ
lines line zero = []
lines line (suc n) = lines line n ++ line n

abbrev pub row_text : ℕ → List ℕ → List ℕ
row_text row discounts = lines (node_text row discounts) (length discounts)

-- n lines are put where the place is in the buffer and at least 128 bytes a line stand before it
unfoldable pub has_room_for : ℕ → ℕ → ℕ → Bool
has_room_for n size end = leb (longest_line * n) end && leb end size

-- a row that has discounts, 0 to 59, with an odd number of nodes, at most 2 row + 1
unfoldable pub is_row : ℕ → ℕ → Bool
is_row row count = leb row 59 && (eqb (count % 2) 1 && leb count (2 * row + 1))

-- each discount is 1 to 1,100,000,000
unfoldable pub accepted_nodes : List ℕ → Bool
accepted_nodes discounts = all_discounts (length discounts) discounts

-- 6 where there is no such row or no room for its lines, then 9 where a discount is not accepted; 0 where there is no cause
unfoldable pub row_number : ℕ → ℕ → ℕ → List ℕ → ℕ
row_number size end row discounts =
    cond (is_row row (length discounts) && has_room_for (length discounts) size end) (cond (accepted_nodes discounts) 0 9) 6
