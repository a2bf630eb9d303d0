-- What the functions within ask of their callers.
-- Assumes nothing.
use Rattle.std.specs.Prelude.{ℕ, ◌*◌, ◌≤◌, ◌≡◌, true, List, length}
use Rattle.text_laws.specs.Lines.{longest_line}
use Rattle.node_lines.specs.Rows.{accepted_nodes}
use Rattle.node_lines.specs.Reading.{nodes_before}

-- the nodes of a row stand before a place, and their lines have room before the end
pub record Readable (discounts : List ℕ) (next count end size : ℕ) : Type 0 where
  pub standing : count ≤ next
  pub next-within : next ≤ length discounts
  -- row 59, the last that has discounts, has at most 119 nodes
  pub within-row : count ≤ 119
  pub accepted : accepted_nodes (nodes_before discounts next count) ≡ true
  pub room : longest_line * count ≤ end
  pub inside : end ≤ size
