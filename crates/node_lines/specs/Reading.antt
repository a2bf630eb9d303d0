-- The node lines of a row that are drawn through a reader of the lent discounts (document 01): it stands behind the row's nodes and goes down by one
-- with each.
-- Assumes nothing.
use Rattle.std.specs.Prelude.{ℕ, ◌-◌, Bool, cond, ◌&&◌, List, eqb, leb, length, take, drop, Result, Ok, Err}
use Rattle.arithmetic.specs.Refusals.{number_of}
use Rattle.arithmetic.specs.declared.Refusal.{Refusal}
use Rattle.node_lines.specs.declared.Places.{Places}
use Rattle.node_lines.specs.Rows.{row_number}

-- number 0, where the lines start and the reader's next place, or the number of a refusal with zeros
pub record Drawn : Type 0 where
  pub number : ℕ
  pub start : ℕ
  pub next : ℕ

-- the places of lines that may be refused, as such
abbrev pub drawn_by : Result Places Refusal → Drawn
drawn_by (Ok places) = record { number = 0; start = places.start; next = places.next }
drawn_by (Err refusal) = record { number = number_of refusal; start = 0; next = 0 }

-- so many nodes stand before a place of a memory of a size
unfoldable pub stand_before : ℕ → ℕ → ℕ → Bool
stand_before count next size = leb count next && leb next size

-- these nodes
unfoldable pub nodes_before : List ℕ → ℕ → ℕ → List ℕ
nodes_before discounts next count = take count (drop (next - count) discounts)

-- 6 where they do not stand there, else the number of their row
unfoldable pub read_number : ℕ → ℕ → ℕ → List ℕ → ℕ → ℕ → ℕ
read_number size end row discounts next count =
    cond (stand_before count next (length discounts)) (row_number size end row (nodes_before discounts next count)) 6

-- the answer by its number: where the lines start and the reader's next place, or the number with zeros
unfoldable pub drawn_of : ℕ → ℕ → List ℕ → ℕ → Drawn
drawn_of number end text next =
    cond (eqb number 0) (record { number = 0; start = end - length text; next = next }) (record { number = number; start = 0; next = 0 })
