-- The promises about the tree that fit, engine and exact pricer use.
-- Assumes nothing.
use mathlib.Core.Path.{refl}
use Prim.Native.Nat.{ℕ, ◌≤◌, ◌<◌}
use native.Mathlib.Omega.{arith}
use Rattle.tree.specs.Tree.{Transition}
use Rattle.tree.proofs.ChanceLaws as sums
use Rattle.lattice.specs.Shape.{half_width, node_count, highest_node}
use Rattle.lattice.specs.Entries.{branch_answer}
use Rattle.lattice.proofs.Sizes.{half-flat, half-capped, start_first, start-suc}
use Rattle.lattice.proofs.TreeBranches.{tree-answered, tree-leads, tree-chances}
use Rattle.lent_tree.specs.LentTree.{stored}
use lib.IntN.{pos, ◌-ℤ◌}
use Rattle.promises.specs.Promises.{Widths, Tiled, LedAs, BranchSums}

pub widths : (b i : ℕ) → Widths b i
unfolding node_count highest_node
widths b i = record { without-pull = half-flat b i; with-pull = λ h. half-capped b i (λ e. omega arith); count = refl }

pub tiled : (b : ℕ) → Tiled b
unfolding stored
tiled b = record { first = start_first b; next = start-suc b; read_at = λ memory i k. refl }

pub led-as : (b i k : ℕ) → b ≤ 6000 → i < 60 → k < node_count b i → LedAs b i k (branch_answer b i (pos k -ℤ pos (half_width b i)))
led-as b i k hb hi h = record { given = tree-answered b i k hb hi h; lowest = tree-leads b i k hb hi h; group = tree-chances b i k hb hi h }

pub branch-sums : (t : Transition) → BranchSums t
branch-sums t =
    record {
      leaving = sums.leaving t;
      entering = sums.entering t;
      by_down = sums.chance-down t;
      by-middle = sums.chance-middle t;
      by-up = sums.chance-up t;
      none_below = sums.chance-below t;
      none_above = sums.chance-above t;
    }
