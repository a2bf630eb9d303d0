-- The branches of a row as a transition, and their probabilities by place.
-- Assumes nothing.
use Rattle.std.specs.Prelude.{ℕ, ◌+◌, List}
use Rattle.arithmetic.specs.Row.{values}
use Rattle.tree.specs.Tree.{Transition}
use Rattle.row_branches.specs.declared.RowBranch.{RowBranch}
use Rattle.row_branches.specs.RowBranches.{row_branch}

-- the three probabilities of a branch by their places, and their sum
abbrev pub branch_up : RowBranch → ℕ
branch_up b = values b.probabilities 0

abbrev pub branch_middle : RowBranch → ℕ
branch_middle b = values b.probabilities 1

abbrev pub branch_down : RowBranch → ℕ
branch_down b = values b.probabilities 2

abbrev pub branch_total : RowBranch → ℕ
branch_total b = branch_up b + branch_middle b + branch_down b

-- the branches of a row as a transition
unfoldable pub row_transition : List ℕ → ℕ → Transition
row_transition downs next =
    record {
      low = λ k. (row_branch downs next k).low;
      up = λ k. branch_up (row_branch downs next k);
      middle = λ k. branch_middle (row_branch downs next k);
      down = λ k. branch_down (row_branch downs next k);
    }
