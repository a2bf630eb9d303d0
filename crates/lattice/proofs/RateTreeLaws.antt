-- The uniform view of the lattice: index k, lowest descendant, three weights. The lattice of every reversion up to 6,000 is a sound tree.
-- Assumes nothing.
use mathlib.Core.Path.{◌≡◌, refl, sym, ap, ◌∙◌}
use Prim.Native.Nat.{ℕ, zero, suc, ◌+◌, ◌-◌, ◌*◌, ◌≤◌, ◌<◌}
use native.Mathlib.Nat.{add-zero, zero-mul}
use native.Mathlib.Omega.{arith}
use lib.Dec.{eqb}
use borrow.Author.Tests.{eqb-true, eqb-false}
use lib.IntN.{ℤ, pos, negsuc, nat_abs, sub_ℕ, ◌+ℤ◌}
use Rattle.arithmetic.proofs.Numbers.{by_order, by-test}
use Rattle.tree.specs.Tree.{Sound}
use Rattle.tree.specs.inside.Layout.{start}
use Rattle.lattice.specs.Shape.{highest_node, half_width, node_count, row_start}
use Rattle.lattice.specs.Branching.{Branching, ordinary, top, bottom, branching, lowest_of, z_of, up_formula, down_formula, up_probability, down_probability}
use Rattle.lattice.specs.RateTree.{node_of_index, node, low, rate_tree}
use Rattle.lattice.proofs.Sizes.{within-row, half-flat, half-capped, half-root, half_full, highest-positive}
use Rattle.lattice.proofs.Differences.{sub-high, sub_low, sub_same, sub-less, sub_more, sub-size}
use Rattle.lattice.proofs.Nodes.{Node, node_laws, up-lower, down-lower, ordinary-node}

-- a property of the branching of a node, from what each case says of its index
pub by-branching : (b w k : ℕ) (P : Branching → Type 0)
    → (b ≡ 0 → P ordinary)
    → ((b ≡ 0 → ⊥) → (k ≡ w + highest_node b → ⊥) → (k + highest_node b ≡ w → ⊥) → P ordinary)
    → ((b ≡ 0 → ⊥) → k ≡ w + highest_node b → P top)
    → ((b ≡ 0 → ⊥) → k + highest_node b ≡ w → P bottom)
    → P (branching b (node_of_index w k))
unfolding branching node_of_index
by-branching b w k P flat inner upper lower = by_order w k high below
  where
    J : ℕ
    J = highest_node b

    apart_low : w ≤ k → k + highest_node b ≡ w → ⊥
    apart_low h e = omega (arith, highest-positive b)

    apart-high : k < w → k ≡ w + highest_node b → ⊥
    apart-high h e = omega arith

    high : w ≤ k → P (branching b (sub_ℕ k w))
    high h =
        rw (sub-high k w h)
        (by-test (eqb b 0) P _ _ (λ t. flat (eqb-true b 0 t))
        (λ f. by-test (eqb (k - w) (highest_node b)) P _ _
        (λ t. upper (eqb-false b 0 f) (omega (arith, eqb-true (k - w) (highest_node b) t)))
        (λ g. inner (eqb-false b 0 f) (λ e. eqb-false (k - w) (highest_node b) g (omega arith)) (apart_low h))))

    below : k < w → P (branching b (sub_ℕ k w))
    below h =
        rw (sub_low k w h)
        (by-test (eqb b 0) P _ _ (λ t. flat (eqb-true b 0 t))
        (λ f. by-test (eqb (suc (w - suc k)) (highest_node b)) P _ _
        (λ t. lower (eqb-false b 0 f) (omega (arith, eqb-true (suc (w - suc k)) (highest_node b) t)))
        (λ g. inner (eqb-false b 0 f) (apart-high h) (λ e. eqb-false (suc (w - suc k)) (highest_node b) g (omega arith)))))

-- how many nodes below a node its lowest branch leads
abbrev pub below : Branching → ℕ
below ordinary = 1
below top = 2
below bottom = 0

lowest-index : (r : Branching) (w k : ℕ) → lowest_of r (node_of_index w k) ≡ sub_ℕ k (w + below r)
unfolding lowest_of node_of_index
lowest-index ordinary w k = sub-less k w 1
lowest-index top w k = sub-less k w 2
lowest-index bottom w k = ap (sub_ℕ k) (sym (add-zero w))

-- where the branches of a node lead: the lowest and the highest target are in the next row
abbrev Leads : ℕ → ℕ → ℕ → Branching → Type 0
Leads b i k r =
    (half_width b i + below r ≤ k + half_width b (suc i))
    × (k + half_width b (suc i) - (half_width b i + below r) + 2 < node_count b (suc i))

leads : (b i k : ℕ) → k < node_count b i → Leads b i k (branching b (node b i k))
unfolding node_count
leads b i k h =
    by-branching b (half_width b i) k (Leads b i k)
    (λ z. omega (arith, half-flat b i z, half-flat b (suc i) z))
    (λ nz p q. omega (arith, half-capped b i nz, half-capped b (suc i) nz))
    (λ nz p. omega (arith, half-capped b i nz, half-capped b (suc i) nz, highest-positive b))
    (λ nz p. omega (arith, half-capped b i nz, half-capped b (suc i) nz, highest-positive b))

module _ (b i k : ℕ) (h : k < node_count b i) where
  low-index : low b i k ≡ k + half_width b (suc i) - (half_width b i + below (branching b (node b i k)))
  unfolding low
  low-index =
      ap nat_abs
      (ap (λ (t : ℤ). t +ℤ pos (half_width b (suc i))) (lowest-index (branching b (node b i k)) (half_width b i) k)
      ∙ sub_more k (half_width b i + below (branching b (node b i k))) (half_width b (suc i))
      ∙ sub-high (k + half_width b (suc i)) (half_width b i + below (branching b (node b i k))) (leads b i k h).0)

  pub low-within : low b i k + 2 < node_count b (suc i)
  low-within = rw low-index (leads b i k h).1

  -- the index is that of document 01's lowest target
  pub low-node : node b (suc i) (low b i k) ≡ lowest_of (branching b (node b i k)) (node b i k)
  unfolding node_of_index
  low-node =
      sub_same (low b i k) (half_width b (suc i)) k (half_width b i + below (branching b (node b i k)))
      (omega (arith, low-index, (leads b i k h).0))
      ∙ sym (lowest-index (branching b (node b i k)) (half_width b i) k)

  -- every index of a row is a node of it
  pub in_row : nat_abs (node b i k) ≤ half_width b i
  unfolding node_of_index node_count
  in_row = omega (arith, sub-size k (half_width b i), h)

  pub index-laws : b ≤ 6000 → Node b (node b i k)
  index-laws hb = node_laws b (node b i k) hb (within-row b i (nat_abs (node b i k)) in_row)

-- the lowest target by the tests that code makes: a row that grows, and a row as wide as the next
module _ (b i k : ℕ) (h : k < node_count b i) where
  Target : ℕ → Branching → Type 0
  Target t r = k + half_width b (suc i) - (half_width b i + below r) ≡ t

  pub low-growing : half_width b i < half_width b (suc i) → low b i k ≡ k
  unfolding node_count Target
  low-growing g =
      low-index b i k h
      ∙ by-branching b (half_width b i) k (Target k)
      (λ z. omega (arith, half-flat b i z, half-flat b (suc i) z))
      (λ nz p q. omega (arith, half-capped b i nz, half-capped b (suc i) nz))
      (λ nz p. omega (arith, half-capped b i nz, half-capped b (suc i) nz))
      (λ nz p. omega (arith, half-capped b i nz, half-capped b (suc i) nz))

  module _ (e : half_width b (suc i) ≡ half_width b i) where
    full : half_width b i ≡ highest_node b
    full = (half_full b i e).1

    pub low-lowest : k ≡ 0 → low b i k ≡ 0
    unfolding node_count Target
    low-lowest g =
        low-index b i k h
        ∙ by-branching b (half_width b i) k (Target 0) (λ z. absurd ((half_full b i e).0 z))
        (λ nz p q. omega (arith, full)) (λ nz p. omega (arith, full, highest-positive b)) (λ nz p. omega (arith, full))

    pub low-highest : k ≡ 2 * half_width b i → low b i k ≡ k - 2
    unfolding node_count Target
    low-highest g =
        low-index b i k h
        ∙ by-branching b (half_width b i) k (Target (k - 2)) (λ z. absurd ((half_full b i e).0 z))
        (λ nz p q. omega (arith, full)) (λ nz p. omega (arith, full)) (λ nz p. omega (arith, full, highest-positive b))

    pub low-inner : 0 < k → k < 2 * half_width b i → low b i k ≡ k - 1
    unfolding node_count Target
    low-inner n g =
        low-index b i k h
        ∙ by-branching b (half_width b i) k (Target (k - 1)) (λ z. absurd ((half_full b i e).0 z))
        (λ nz p q. omega (arith, full)) (λ nz p. omega (arith, full, highest-positive b)) (λ nz p. omega (arith, full, highest-positive b))

pub rate-tree-sound : (b : ℕ) → b ≤ 6000 → Sound (rate_tree b)
unfolding rate_tree node_count
rate-tree-sound b hb =
    record {
      root = omega (arith, half-root b);
      inside = λ i k h. low-within b i k h;
      total = λ i k h. omega (arith, (index-laws b i k h hb).total);
    }

-- rows start where the abstract tree lays them
pub start_is : (b i : ℕ) → start (rate_tree b) i ≡ row_start b i
unfolding start row_start rate_tree
start_is b i = refl

-- ---- a node's weights depend on its node number alone, so one table serves every row

-- the same node in a wider row
pub same-node : (w k d : ℕ) → node_of_index (w + d) (k + d) ≡ node_of_index w k
unfolding node_of_index
same-node w k d = sub_same (k + d) (w + d) k w (omega arith)

-- the opposite node has up and down exchanged
opposite : (b : ℕ) (j g : ℤ) (d : ℕ) → j ≡ pos d → g ≡ negsuc (d - 1) → 0 < d →
    (up_probability b j ≡ down_probability b g) × (up_probability b g ≡ down_probability b j)
opposite b j g zero ej eg p = absurd (none p)
  where
    none : 0 < 0 → ⊥
    none q = omega arith
opposite b j g (suc c) ej eg p =
    let e : suc c - 1 ≡ c = omega arith in
    let f : g ≡ negsuc c = eg ∙ ap negsuc e in
    rw (ej, f) (sym (down-lower b c), up-lower b c)

middle-even : (b : ℕ) → up_probability b (pos 0) ≡ down_probability b (pos 0)
unfolding up_probability down_probability z_of up_formula down_formula
middle-even b = rw (ordinary-node b 0 (omega (arith, zero-mul b)), zero-mul b)

-- up of a node is down of its mirror image
pub up-is-down : (b w k : ℕ) → k ≤ 2 * w → up_probability b (node_of_index w k) ≡ down_probability b (node_of_index w (2 * w - k))
unfolding node_of_index
up-is-down b w k h = by_order k w below-middle above
  where
    above : w < k → up_probability b (sub_ℕ k w) ≡ down_probability b (sub_ℕ (2 * w - k) w)
    above l =
        let x : w - suc (2 * w - k) ≡ k - w - 1 = omega arith in
        (opposite b (sub_ℕ k w) (sub_ℕ (2 * w - k) w) (k - w) (sub-high k w (omega arith))
        (sub_low (2 * w - k) w (omega arith) ∙ ap negsuc x) (omega arith)).0

    strictly : k < w → up_probability b (sub_ℕ k w) ≡ down_probability b (sub_ℕ (2 * w - k) w)
    strictly l =
        let x : w - suc k ≡ 2 * w - k - w - 1 = omega arith in
        (opposite b (sub_ℕ (2 * w - k) w) (sub_ℕ k w) (2 * w - k - w) (sub-high (2 * w - k) w (omega arith))
        (sub_low k w l ∙ ap negsuc x) (omega arith)).1

    below-middle : k ≤ w → up_probability b (sub_ℕ k w) ≡ down_probability b (sub_ℕ (2 * w - k) w)
    below-middle l = by_order w k (λ g. at-middle (omega arith)) (λ g. strictly g)
      where
        at-middle : k ≡ w → up_probability b (sub_ℕ k w) ≡ down_probability b (sub_ℕ (2 * w - k) w)
        at-middle e =
            let x : k - w ≡ 0 = omega arith in
            let y : 2 * w - k - w ≡ 0 = omega arith in
            rw (sub-high k w (omega arith), sub-high (2 * w - k) w (omega arith), x, y) (middle-even b)
