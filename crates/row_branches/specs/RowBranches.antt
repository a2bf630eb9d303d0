-- The branches of a row of the lattice from its down-probabilities, lowest node first: up is the down of the node opposite, middle is what is left.
-- Assumes nothing.
use Rattle.std.specs.Prelude.{ℕ, ◌+◌, ◌-◌, cond, ◌||◌, List, [], ◌∷◌, eqb, leb, ltb, length}
use Rattle.arithmetic.specs.Row.{values}
use Rattle.tree.specs.Tree.{probability_total}
use Rattle.row_branches.specs.declared.RowBranch.{RowBranch}

-- the lowest node that node k of a row of count nodes leads to, in a row of next nodes: the row grows, or its edges branch inwards
unfoldable pub lowest : ℕ → ℕ → ℕ → ℕ
lowest count next k = cond (ltb count next) k (cond (ltb k 2) 0 (cond (eqb (k + 1) count) (k - 2) (k - 1)))

-- the node opposite
abbrev pub opposite : List ℕ → ℕ → ℕ
opposite downs k = values downs (length downs - 1 - k)

abbrev pub no_branch : RowBranch
no_branch = record { low = 0; probabilities = 0 ∷ 0 ∷ 0 ∷ [] }

-- the branch of node k of a row whose next row has so many nodes
unfoldable pub row_branch : List ℕ → ℕ → ℕ → RowBranch
row_branch downs next k =
    cond (leb (length downs) k || ltb probability_total (values downs k + opposite downs k)) no_branch
    (record {
      low = lowest (length downs) next k;
      probabilities = opposite downs k ∷ (probability_total - values downs k - opposite downs k) ∷ values downs k ∷ [];
    })
