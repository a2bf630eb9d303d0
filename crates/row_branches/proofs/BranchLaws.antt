-- A row's branches by the tests that code makes, and what they are on a row of the lattice.
-- Assumes nothing.
use mathlib.Core.Path.{◌≡◌, refl, sym, ap, ◌∙◌}
use mathlib.Core.List.{List, [], ◌∷◌}
use Prim.Native.Nat.{ℕ, suc, ◌+◌, ◌-◌, ◌*◌, ◌≤◌, ◌<◌}
use native.Mathlib.Omega.{arith}
use lib.ListN.{length}
use borrow.Author.Tests.{eq-eqb, ne_eqb, lt-ltb, le-ltb, le-leb, lt-leb}
use Rattle.arithmetic.specs.Row.{values}
use Rattle.arithmetic.proofs.Numbers.{by_order, by_equal}
use Rattle.tree.specs.Tree.{probability_total}
use Rattle.lattice.specs.Shape.{half_width, node_count}
use Rattle.lattice.specs.Branching.{up_probability, middle_probability, down_probability, probabilities}
use Rattle.lattice.specs.RateTree.{node, low, rate_tree}
use Rattle.lattice.proofs.Sizes.{half-grows, half_full, highest-positive}
use Rattle.lattice.proofs.RateTreeLaws.{low-growing, low-lowest, low-highest, low-inner, up-is-down, index-laws}
use Rattle.row_branches.specs.declared.RowBranch.{RowBranch}
use Rattle.row_branches.specs.RowBranches.{lowest, opposite, no_branch, row_branch}
use Rattle.row_branches.specs.inside.Transitions.{branch_up, branch_middle, branch_down, branch_total, row_transition}

-- a branch sums up, middle, down; a transition sums from the lowest node on
pub backwards : (up middle down : ℕ) → up + middle + down ≡ down + middle + up
backwards up middle down = omega arith

module _ (count next k : ℕ) where
  pub lowest-grown : count < next → k ≡ lowest count next k
  unfolding lowest
  lowest-grown g = rw (lt-ltb count next g)

  module _ (g : next ≤ count) where
    pub lowest-first : k < 2 → 0 ≡ lowest count next k
    unfolding lowest
    lowest-first h = rw (le-ltb count next g, lt-ltb k 2 h)

    module _ (h : 2 ≤ k) where
      pub lowest-last : k + 1 ≡ count → k - 2 ≡ lowest count next k
      unfolding lowest
      lowest-last e = rw (le-ltb count next g, le-ltb k 2 h, eq-eqb (k + 1) count e)

      pub lowest-inner : (k + 1 ≡ count → ⊥) → k - 1 ≡ lowest count next k
      unfolding lowest
      lowest-inner e = rw (le-ltb count next g, le-ltb k 2 h, ne_eqb (k + 1) count e)

module _ (downs : List ℕ) (next k : ℕ) where
  pub branch-past : length downs ≤ k → no_branch ≡ row_branch downs next k
  unfolding row_branch
  branch-past h = rw (le-leb (length downs) k h)

  module _ (h : k < length downs) where
    pub branch-over : probability_total < values downs k + opposite downs k → no_branch ≡ row_branch downs next k
    unfolding row_branch
    branch-over g = rw (lt-leb (length downs) k h, lt-ltb probability_total (values downs k + opposite downs k) g)

    pub branch-found : (l : ℕ) → l ≡ lowest (length downs) next k → values downs k + opposite downs k ≤ probability_total →
        ◌≡◌ {A = RowBranch}
        (record { low = l; probabilities = opposite downs k ∷ (probability_total - values downs k - opposite downs k) ∷ values downs k ∷ [] })
        (row_branch downs next k)
    unfolding row_branch
    branch-found l e g = rw (lt-leb (length downs) k h, le-ltb probability_total (values downs k + opposite downs k) g, e)

-- a branch whose probabilities sum to their total is no refusal's
module _ (downs : List ℕ) (next k : ℕ) where
  abbrev filled-branch : RowBranch
  filled-branch =
      record {
        low = (row_branch downs next k).low;
        probabilities = opposite downs k ∷ (probability_total - values downs k - opposite downs k) ∷ values downs k ∷ [];
      }

  refused-total : no_branch ≡ row_branch downs next k → branch_total (row_branch downs next k) ≡ probability_total → ⊥
  refused-total e t = let z : branch_total (row_branch downs next k) ≡ 0 = ap branch_total (sym e) in omega arith

  pub branch-filled : branch_total (row_branch downs next k) ≡ probability_total →
      (values downs k + opposite downs k ≤ probability_total) × (filled-branch ≡ row_branch downs next k)
  branch-filled t =
      by_order (length downs) k
      (λ past. absurd (refused-total (branch-past downs next k past) t))
      (λ h. by_order (values downs k + opposite downs k) probability_total
      (λ g. let e = branch-found downs next k h _ refl g in (
        g,
        ap
            (λ (x : RowBranch). record { low = x.low; probabilities = filled-branch.probabilities }) (sym e) ∙ e,
      ))
      (λ over. absurd (refused-total (branch-over downs next k h over) t)))

  pub branch_leads : branch_total (row_branch downs next k) ≡ probability_total → k < length downs →
      (row_branch downs next k).low ≡ lowest (length downs) next k
  branch_leads t h = ap (λ (x : RowBranch). x.low) (sym (branch-found downs next k h _ refl (branch-filled t).0))

-- where branches lead, by the node counts of the two rows
pub lowest-is : (b i k : ℕ) → k < node_count b i → low b i k ≡ lowest (node_count b i) (node_count b (suc i)) k
unfolding node_count
lowest-is b i k h =
    by_order (half_width b (suc i)) (half_width b i)
    (λ c. let e : half_width b (suc i) ≡ half_width b i = omega (arith, half-grows b i) in capped e)
    (λ g. low-growing b i k h g ∙ lowest-grown _ _ k (omega arith))
  where
    capped : half_width b (suc i) ≡ half_width b i → low b i k ≡ lowest (2 * half_width b i + 1) (2 * half_width b (suc i) + 1) k
    capped e =
        by_order 2 k
        (λ l. by_equal (k + 1) (2 * half_width b i + 1)
        (λ z. low-highest b i k h e (omega arith) ∙ lowest-last _ _ k (omega arith) l z)
        (λ nz. low-inner b i k h e (omega arith) (omega (arith, nz)) ∙ lowest-inner _ _ k (omega arith) l nz))
        (λ l. first l ∙ lowest-first _ _ k (omega arith) l)
      where
        first : k < 2 → low b i k ≡ 0
        first l =
            by_equal k 0 (λ z. low-lowest b i k h e z)
            (λ nz.
            let p : 0 < k = omega (arith, nz) in
            let z : k - 1 ≡ 0 = omega arith in
            low-inner b i k h e p (omega (arith, (half_full b i e).1, highest-positive b)) ∙ z)

-- On a row of the lattice, and a list that holds its down-probabilities.
module _ (b i : ℕ) (hb : b ≤ 6000) (downs : List ℕ) (size : length downs ≡ node_count b i)
    (holds : (k : ℕ) → k < node_count b i → values downs k ≡ down_probability b (node b i k)) where
  opposite-is : (k : ℕ) → k < node_count b i → opposite downs k ≡ up_probability b (node b i k)
  unfolding node_count
  opposite-is k h =
      let e : length downs - 1 - k ≡ 2 * half_width b i - k = omega arith in
      let l : 2 * half_width b i - k < node_count b i = omega arith in
      ap (values downs) e ∙ holds (2 * half_width b i - k) l ∙ sym (up-is-down b (half_width b i) k (omega arith))

  pub row-branch-is : (k : ℕ) → k < node_count b i →
      row_branch downs (node_count b (suc i)) k
      ≡ record { low = low b i k; probabilities = probabilities b (node b i k) }
  row-branch-is k h =
      let o = opposite-is k h in
      let d = holds k h in
      let t = (index-laws b i k h hb).total in
      let m : probability_total - down_probability b (node b i k) - up_probability b (node b i k) ≡ middle_probability b (node b i k) = omega arith in
      sym (branch-found downs (node_count b (suc i)) k (omega arith) (low b i k)
      (lowest-is b i k h ∙ ap (λ (c : ℕ). lowest c (node_count b (suc i)) k) (sym size)) (omega arith))
      ∙ rw (d, o, m)

  -- so each of the transition's numbers is the lattice's
  pub low-is : (k : ℕ) → k < node_count b i → (row_transition downs (node_count b (suc i))).low k ≡ ((rate_tree b).step i).low k
  unfolding row_transition rate_tree
  low-is k h = ap (λ (x : RowBranch). x.low) (row-branch-is k h)

  pub up_is : (k : ℕ) → k < node_count b i → (row_transition downs (node_count b (suc i))).up k ≡ ((rate_tree b).step i).up k
  unfolding row_transition rate_tree
  up_is k h = ap branch_up (row-branch-is k h)

  pub middle-is : (k : ℕ) → k < node_count b i → (row_transition downs (node_count b (suc i))).middle k ≡ ((rate_tree b).step i).middle k
  unfolding row_transition rate_tree
  middle-is k h = ap branch_middle (row-branch-is k h)

  pub down_is : (k : ℕ) → k < node_count b i → (row_transition downs (node_count b (suc i))).down k ≡ ((rate_tree b).step i).down k
  unfolding row_transition rate_tree
  down_is k h = ap branch_down (row-branch-is k h)
