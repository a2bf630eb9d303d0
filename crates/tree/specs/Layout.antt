-- Rows stored row after row, lowest node first (document 01, Spacing and fit).
-- Assumes nothing.
use Rattle.std.specs.Prelude.{List, [], ◌++◌, ℕ, zero, suc}
use Rattle.arithmetic.specs.Row.{row}
use Rattle.tree.specs.Tree.{Tree}

-- rows 0 to i - 1 of values by row and node
unfoldable pub laid : Tree → (ℕ → ℕ → ℕ) → ℕ → List ℕ
laid t f zero = []
laid t f (suc i) = laid t f i ++ row (t.nodes i) (f i)
