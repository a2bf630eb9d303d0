-- The table of down-probabilities: what callers use of it, and its answer by the tests that code makes.
-- Assumes nothing.
use mathlib.Core.Path.{◌≡◌, refl, sym, ap, ◌∙◌}
use mathlib.Core.Bool.{true, false}
use mathlib.Core.List.{List}
use Prim.Native.Nat.{ℕ, suc, ◌+◌, ◌-◌, ◌*◌, ◌≤◌, ◌<◌}
use native.Mathlib.Nat.{mul-le-mul_right}
use native.Mathlib.Omega.{arith}
use lib.Dec.{leb}
use lib.ListN.{length, get_or}
use borrow.Author.Tests.{eq-eqb, ne_eqb, lt-ltb, le-ltb, le-leb, lt-leb}
use lib.IntN.{pos}
use Rattle.arithmetic.specs.Row.{row}
use Rattle.arithmetic.proofs.Numbers.{by_order}
use Rattle.lattice.specs.Shape.{half_width, node_count}
use Rattle.lattice.specs.Branching.{down_probability, probabilities}
use Rattle.lattice.specs.RateTree.{node_of_index, node}
use Rattle.lattice.specs.Entries.{is_half_width, table_number, table_of}
use Rattle.lattice.proofs.Sizes.{within-row, row_within, within-by-product, product-within, half-within}
use Rattle.lattice.proofs.Differences.{sub-high, sub_low}
use Rattle.lattice.proofs.Nodes.{down-lower}
use Rattle.lattice.proofs.RateTreeLaws.{same-node}

-- an index on either side of the middle
module _ (b w k : ℕ) (p : List ℕ) where
  pub down-above : w ≤ k → p ≡ probabilities b (pos (k - w)) → get_or p 2 0 ≡ down_probability b (node_of_index w k)
  unfolding node_of_index
  down-above h e = rw (e, sub-high k w h)

  pub down-below : k < w → p ≡ probabilities b (pos (w - k)) → get_or p 0 0 ≡ down_probability b (node_of_index w k)
  unfolding node_of_index
  down-below h e =
      let x : w - k ≡ suc (w - suc k) = omega arith in
      rw (e, sub_low k w h, x) (sym (down-lower b (w - suc k)))

pub nearer : (b w d : ℕ) → w * b ≤ 1840 + b → d ≤ w → d * b ≤ 1840 + b
nearer b w d h l = omega (arith, mul-le-mul_right b l)

-- ---- the entry's answer

module _ (b w : ℕ) (table : List ℕ) where
  abbrev pub Answers : ℕ → List ℕ → Type 0
  Answers number after = (number ≡ table_number b w (length table)) × (after ≡ table_of b w table)

  pub table-steep : 6000 < b → Answers 4 table
  unfolding table_number table_of
  table-steep h = rw (lt-ltb 6000 b h) (refl, refl)

  module _ (hb : b ≤ 6000) where
    unfit : leb w (half_width b 60) ≡ false → Answers 6 table
    unfolding table_number table_of is_half_width
    unfit e = rw (le-ltb 6000 b hb, e) (refl, refl)

    pub table-wide : 60 < w → Answers 6 table
    table-wide h = unfit (lt-leb w (half_width b 60) (omega (arith, half-within b 60)))

    module _ (hw : w ≤ 60) where
      pub table-beyond : 1840 + b < w * b → Answers 6 table
      table-beyond h =
          unfit (by_order w (half_width b 60) (λ l. absurd (none (product-within b w (within-row b 60 w l)))) (λ l. lt-leb w (half_width b 60) l))
        where
          none : w * b ≤ 1840 + b → ⊥
          none g = omega arith

      module _ (inside : w * b ≤ 1840 + b) where
        fit : leb w (half_width b 60) ≡ true
        fit = le-leb w (half_width b 60) (row_within b 60 w hw (within-by-product b w inside))

        pub table-length : (length table ≡ 2 * w + 1 → ⊥) → Answers 6 table
        unfolding table_number table_of is_half_width
        table-length n = rw (le-ltb 6000 b hb, fit, ne_eqb (length table) (2 * w + 1) n) (refl, refl)

        pub table_filled : (after : List ℕ) → length table ≡ 2 * w + 1 → after ≡ row (length table) (λ k. down_probability b (node_of_index w k)) → Answers 0 after
        unfolding table_number table_of is_half_width
        table_filled after e f = rw (le-ltb 6000 b hb, fit, eq-eqb (length table) (2 * w + 1) e) (refl, rw e at f)

-- ---- what callers use: the weights of row i, from a table of a half width at least as great

-- a row's own half width always serves
pub table_fits : (b i : ℕ) (table : List ℕ) → b ≤ 6000 → i ≤ 60 → length table ≡ node_count b i →
    (table_number b (half_width b i) (length table) ≡ 0) × (table_of b (half_width b i) table ≡ row (node_count b i) (λ k. down_probability b (node b i k)))
unfolding node_count
table_fits b i table hb hi e =
    let a = table_filled b (half_width b i) table hb (omega (arith, half-within b i))
    (product-within b (half_width b i) (within-row b i (half_width b i) same)) _ e refl in
    (sym a.0, sym a.1 ∙ rw e)
  where
    same : half_width b i ≤ half_width b i
    same = omega arith

module _ (b i d k : ℕ) where
  pub down-from-table : down_probability b (node b i k) ≡ down_probability b (node_of_index (half_width b i + d) (k + d))
  down-from-table = ap (down_probability b) (sym (same-node (half_width b i) k d))
