-- The greatest value of rows i to n, from the greatest value of each (document 01, cause 12).
-- Assumes nothing.
use Rattle.std.specs.Prelude.{ℕ, zero, suc, ◌-◌, max}
use Rattle.arithmetic.specs.Sum.{greatest}
use Rattle.tree.specs.Tree.{Tree}

-- the greatest of top i, .., top (i + s)
unfoldable pub peak_from : (ℕ → ℕ) → ℕ → ℕ → ℕ
peak_from top zero i = top i
peak_from top (suc s) i = max (top i) (peak_from top s (suc i))

-- the greatest of top i, .., top n
unfoldable pub peak : (ℕ → ℕ) → ℕ → ℕ → ℕ
peak top n i = peak_from top (n - i) i

-- the greatest value of row i, of values by row and node
unfoldable pub greatest_value : Tree → (ℕ → ℕ → ℕ) → ℕ → ℕ
greatest_value t value i = greatest (t.nodes i) (value i)
