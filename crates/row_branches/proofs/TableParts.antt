-- Row i's part of a table that has a number for each node of row w: its length, its values, and the branches that a table of
-- down-probabilities gives.
-- Assumes nothing.
use mathlib.Core.Path.{◌≡◌, sym, ap₂, ◌∙◌}
use mathlib.Core.List.{List}
use Prim.Native.Nat.{ℕ, suc, ◌+◌, ◌≤◌, ◌<◌}
use native.Mathlib.Omega.{arith}
use lib.ListN.{length, take, drop}
use Rattle.arithmetic.specs.Row.{values}
use Rattle.arithmetic.proofs.PartLaws.{part-value, part_length}
use Rattle.lattice.specs.Shape.{node_count}
use Rattle.lattice.specs.Branching.{down_probability, probabilities}
use Rattle.lattice.specs.RateTree.{node_of_index, node, low, rate_tree}
use Rattle.lattice.specs.Entries.{table_offset}
use Rattle.lattice.proofs.ShapeLaws.{offset-is, table-room}
use Rattle.lattice.proofs.TableLaws.{down-from-table}
use Rattle.row_branches.specs.RowBranches.{row_branch}
use Rattle.row_branches.specs.inside.Transitions.{row_transition}
use Rattle.row_branches.proofs.BranchLaws as branch

-- row i's part of a table of row w
abbrev pub table-part : ℕ → ℕ → ℕ → List ℕ → List ℕ
table-part b w i table = take (node_count b i) (drop (table_offset b w i) table)

module _ (b w i : ℕ) (inside : i ≤ w) where
  pub part-within : (k : ℕ) → k < node_count b i → table_offset b w i + k < node_count b w
  part-within k h = omega (arith, table-room b w i inside)

  module _ (table : List ℕ) (size : length table ≡ node_count b w) where
    pub table-part-length : length (table-part b w i table) ≡ node_count b i
    table-part-length = part_length table (table_offset b w i) (node_count b i) (omega (arith, table-room b w i inside))

    pub table-part-value : (k : ℕ) → k < node_count b i → values (table-part b w i table) k ≡ values table (table_offset b w i + k)
    table-part-value k h = part-value table (table_offset b w i) (node_count b i) k h

  -- a table of row w's down-probabilities
  module _ (table : List ℕ) (size : length table ≡ node_count b w)
      (holds : (k : ℕ) → k < node_count b w → values table k ≡ down_probability b (node b w k)) where
    pub table-part-down : (k : ℕ) → k < node_count b i → values (table-part b w i table) k ≡ down_probability b (node b i k)
    table-part-down k h =
        let d = table_offset b w i in
        let z : d + k ≡ k + d = omega arith in
        table-part-value table size k h
        ∙ holds (d + k) (part-within k h)
        ∙ ap₂ (λ (x y : ℕ). down_probability b (node_of_index x y)) (sym (offset-is b w i inside)) z
        ∙ sym (down-from-table b i d k)

    module _ (hb : b ≤ 6000) (k : ℕ) (h : k < node_count b i) where
      pub part-branch :
          row_branch (table-part b w i table) (node_count b (suc i)) k
          ≡ record { low = low b i k; probabilities = probabilities b (node b i k) }
      part-branch = branch.row-branch-is b i hb (table-part b w i table) (table-part-length table size) table-part-down k h

      pub part_low : (row_transition (table-part b w i table) (node_count b (suc i))).low k ≡ ((rate_tree b).step i).low k
      part_low = branch.low-is b i hb (table-part b w i table) (table-part-length table size) table-part-down k h

      pub part_up : (row_transition (table-part b w i table) (node_count b (suc i))).up k ≡ ((rate_tree b).step i).up k
      part_up = branch.up_is b i hb (table-part b w i table) (table-part-length table size) table-part-down k h

      pub part-middle : (row_transition (table-part b w i table) (node_count b (suc i))).middle k ≡ ((rate_tree b).step i).middle k
      part-middle = branch.middle-is b i hb (table-part b w i table) (table-part-length table size) table-part-down k h

      pub part-down : (row_transition (table-part b w i table) (node_count b (suc i))).down k ≡ ((rate_tree b).step i).down k
      part-down = branch.down_is b i hb (table-part b w i table) (table-part-length table size) table-part-down k h
