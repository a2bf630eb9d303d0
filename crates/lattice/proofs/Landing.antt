-- The branches of every node of a row lead to three neighbouring nodes of the next row.
-- Assumes nothing.
use mathlib.Core.Path.{◌≡◌, sym, ap, subst, ◌∙◌}
use Prim.Native.Nat.{ℕ, suc, ◌+◌, ◌-◌, ◌*◌, ◌≤◌, ◌<◌}
use native.Mathlib.Omega.{arith}
use lib.IntN.{ℤ, pos, negsuc, nat_abs, sub_ℕ, ◌+ℤ◌}
use Rattle.lattice.specs.Shape.{half_width, node_count}
use Rattle.lattice.specs.Branching.{branching, lowest_of}
use Rattle.lattice.specs.RateTree.{node_of_index, node, low}
use Rattle.lattice.proofs.Differences.{sub-high, sub_low, sub_more, sub-size}
use Rattle.lattice.proofs.RateTreeLaws.{low-within, low-node}

-- the index of a node in a row of half width w
pub record Indexed (w : ℕ) (j : ℤ) : Type 0 where
  pub index : ℕ
  pub inside : index < 2 * w + 1
  pub same : node_of_index w index ≡ j

pub index_of : (w : ℕ) (j : ℤ) → nat_abs j ≤ w → Indexed w j
unfolding node_of_index
index_of w (pos d) h =
    let e : w + d - w ≡ d = omega arith in
    record { index = w + d; inside = omega arith; same = sub-high (w + d) w (omega arith) ∙ ap pos e }
index_of w (negsuc c) h =
    let e : w - suc (w - suc c) ≡ c = omega arith in
    record { index = w - suc c; inside = omega arith; same = sub_low (w - suc c) w (omega arith) ∙ ap negsuc e }

module _ (b i k : ℕ) (h : k < node_count b i) where
  lands-index : (m : ℕ) → m ≤ 2 → nat_abs (lowest_of (branching b (node b i k)) (node b i k) +ℤ pos m) ≤ half_width b (suc i)
  unfolding node_of_index node_count
  lands-index m few =
      let e : lowest_of (branching b (node b i k)) (node b i k) +ℤ pos m ≡ sub_ℕ (low b i k + m) (half_width b (suc i))
      = ap (λ (x : ℤ). x +ℤ pos m) (sym (low-node b i k h)) ∙ sub_more (low b i k) (half_width b (suc i)) m in
      omega (arith, ap nat_abs e, sub-size (low b i k + m) (half_width b (suc i)), low-within b i k h)

pub lands :
    (b i : ℕ) (j : ℤ) → nat_abs j ≤ half_width b i → (m : ℕ) → m ≤ 2 → nat_abs (lowest_of (branching b j) j +ℤ pos m) ≤ half_width b (suc i)
unfolding node_count
lands b i j h m few =
    let x = index_of (half_width b i) j h in
    subst (λ (y : ℤ). nat_abs (lowest_of (branching b y) y +ℤ pos m) ≤ half_width b (suc i)) x.same (lands-index b i x.index x.inside m few)
