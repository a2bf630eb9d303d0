-- Rows of the rate tree stored row after row: the length of a memory that just holds them, a row as its part, and a node's number.
-- Assumes nothing.
use mathlib.Core.Path.{◌≡◌, ◌∙◌}
use mathlib.Core.List.{List, ◌++◌}
use Prim.Native.Nat.{ℕ, ◌+◌, ◌<◌}
use lib.ListN.{length, take, drop}
use Rattle.arithmetic.specs.Row.{row, values}
use Rattle.tree.specs.Layout.{laid}
use Rattle.tree.specs.inside.Layout.{start}
use Rattle.tree.proofs.LayoutLaws as layout
use Rattle.lattice.specs.Shape.{node_count, row_start}
use Rattle.lattice.specs.RateTree.{rate_tree}
use Rattle.lattice.proofs.RateTreeLaws.{start_is}

module _ (b : ℕ) (f : ℕ → ℕ → ℕ) (n : ℕ) where
  pub length-laid : length (laid (rate_tree b) f n) ≡ row_start b n
  length-laid = layout.length-laid (rate_tree b) f n ∙ start_is b n

  module _ (i : ℕ) (h : i < n) (rest : List ℕ) where
    pub laid-part : take (node_count b i) (drop (row_start b i) (laid (rate_tree b) f n ++ rest)) ≡ row (node_count b i) (f i)
    unfolding rate_tree row_start start
    laid-part = layout.laid-part (rate_tree b) f n i rest h

    pub laid-value : (k : ℕ) → k < node_count b i → values (laid (rate_tree b) f n ++ rest) (row_start b i + k) ≡ f i k
    unfolding rate_tree row_start start
    laid-value k l = layout.laid-value (rate_tree b) f n i k rest h l
