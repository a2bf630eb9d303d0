-- The lattice as an abstract tree: node j of row i stands at index k = j + w, the lowest node at 0.
-- Assumes nothing.
use Rattle.std.specs.Prelude.{ℕ, suc, ℤ, pos, nat_abs, ◌+ℤ◌}
use Rattle.std.proofs.Math.IntN.{sub_ℕ}
use Rattle.tree.specs.Tree.{Tree}
use Rattle.lattice.specs.Shape.{half_width, node_count}
use Rattle.lattice.specs.Branching.{branching, lowest_of, up_probability, middle_probability, down_probability}

-- j = k − w
unfoldable pub node_of_index : ℕ → ℕ → ℤ
node_of_index w k = sub_ℕ k w

-- node j of row i, at its index
abbrev pub node : ℕ → ℕ → ℕ → ℤ
node b i k = node_of_index (half_width b i) k

-- the index, on the next row, of the lowest node where the branches of index k of row i lead
unfoldable pub low : ℕ → ℕ → ℕ → ℕ
low b i k = nat_abs (lowest_of (branching b (node b i k)) (node b i k) +ℤ pos (half_width b (suc i)))

unfoldable pub rate_tree : ℕ → Tree
rate_tree b =
    record {
      nodes = node_count b;
      step = λ i. record {
        low = low b i;
        down = λ k. down_probability b (node b i k);
        middle = λ k. middle_probability b (node b i k);
        up = λ k. up_probability b (node b i k);
      };
    }
