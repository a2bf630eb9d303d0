-- Where a row starts among rows that stand one after the other.
-- Assumes nothing.
use Rattle.std.specs.Prelude.{ℕ}
use Rattle.arithmetic.specs.Sum.{sum}
use Rattle.tree.specs.Tree.{Tree}

-- the nodes of the rows before row i: where row i starts
unfoldable pub start : Tree → ℕ → ℕ
start t i = sum i t.nodes
