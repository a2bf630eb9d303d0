-- The tree that fit and prices use is the branches' own: index k of row i is node k − w, and leads where the entry answers, by its probabilities.
-- Assumes nothing.
use mathlib.Core.Path.{◌≡◌, refl, sym, ap, ◌∙◌}
use mathlib.Core.List.{[], ◌∷◌}
use Prim.Native.Nat.{ℕ, suc, ◌≤◌, ◌<◌}
use lib.IntN.{pos, ◌-ℤ◌}
use borrow.Author.Tests.{le-ltb, le-leb, lt-leb}
use Rattle.lattice.specs.Shape.{half_width, node_count}
use Rattle.lattice.specs.RateTree.{node_of_index, node, low, rate_tree}
use Rattle.lattice.specs.declared.Branches.{Branches}
use Rattle.lattice.specs.Entries.{branch_of, branch_answer}
use Rattle.lattice.proofs.Differences.{sub_is}
use Rattle.lattice.proofs.RateTreeLaws.{low-node, in_row}

pub tree-nodes : (b i : ℕ) → (rate_tree b).nodes i ≡ node_count b i
unfolding rate_tree
tree-nodes b i = refl

node-is : (b i k : ℕ) → node b i k ≡ pos k -ℤ pos (half_width b i)
unfolding node_of_index
node-is b i k = sub_is k (half_width b i)

module _ (b i k : ℕ) (hb : b ≤ 6000) (hi : i < 60) (h : k < node_count b i) where
  answered-node : branch_answer b i (node b i k) ≡ branch_of b (node b i k)
  unfolding branch_answer
  answered-node = rw (le-ltb 6000 b hb, lt-leb 60 i hi, le-leb _ _ (in_row b i k h))

  answer-is : branch_answer b i (pos k -ℤ pos (half_width b i)) ≡ branch_of b (node b i k)
  answer-is = ap (branch_answer b i) (sym (node-is b i k)) ∙ answered-node

  pub tree-answered : (branch_answer b i (pos k -ℤ pos (half_width b i))).number ≡ 0
  tree-answered = ap (λ (a : Branches). a.number) answer-is

  pub tree-leads : pos (((rate_tree b).step i).low k) -ℤ pos (half_width b (suc i)) ≡ (branch_answer b i (pos k -ℤ pos (half_width b i))).lowest
  unfolding rate_tree
  tree-leads = sym (node-is b (suc i) (low b i k)) ∙ low-node b i k h ∙ sym (ap (λ (a : Branches). a.lowest) answer-is)

  pub tree-chances :
      (branch_answer b i (pos k -ℤ pos (half_width b i))).probabilities
      ≡ ((rate_tree b).step i).up k ∷ ((rate_tree b).step i).middle k ∷ ((rate_tree b).step i).down k ∷ []
  unfolding rate_tree
  tree-chances = ap (λ (a : Branches). a.probabilities) answer-is
