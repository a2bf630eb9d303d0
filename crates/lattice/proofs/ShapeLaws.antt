-- A row's shape by the tests that code makes, and its room in a table of a row as wide.
-- Assumes nothing.
use mathlib.Core.Path.{◌≡◌}
use Prim.Native.Nat.{ℕ, ◌+◌, ◌-◌, ◌*◌, ◌≤◌, ◌<◌}
use native.Mathlib.Omega.{arith}
use native.Mathlib.Numerals.{add-one}
use borrow.Author.Tests.{lt-ltb, le-ltb, le-leb, lt-leb}
use Rattle.limits.specs.Limits.{most_steps, most_reversion, most_nodes}
use Rattle.lattice.specs.declared.RowShape.{RowShape}
use Rattle.lattice.specs.Shape.{half_width, node_count, row_start}
use Rattle.lattice.specs.Entries.{table_offset, refused_shape, shape_of, row_shape_answer}
use Rattle.lattice.proofs.Sizes.{half-later, count-within}

module _ (b w i : ℕ) where
  pub shape-steep : most_reversion < b → refused_shape 4 ≡ row_shape_answer b w i
  unfolding row_shape_answer
  shape-steep h = rw (lt-ltb most_reversion b h)

  module _ (hb : b ≤ most_reversion) where
    pub shape-no-table : most_steps < w → refused_shape 6 ≡ row_shape_answer b w i
    unfolding row_shape_answer
    shape-no-table h = rw (le-ltb most_reversion b hb, lt-ltb most_steps w h)

    module _ (hw : w ≤ most_steps) where
      pub shape-past : w < i → refused_shape 6 ≡ row_shape_answer b w i
      unfolding row_shape_answer
      shape-past h = rw (le-ltb most_reversion b hb, le-ltb most_steps w hw, lt-ltb w i h)

      module _ (hi : i ≤ w) where
        pub shape-last : most_steps ≤ i → refused_shape 6 ≡ row_shape_answer b w i
        unfolding row_shape_answer
        shape-last h = rw (le-ltb most_reversion b hb, le-ltb most_steps w hw, le-ltb w i hi, le-leb most_steps i h)

        -- accepted: the shape itself
        pub shape-found : i < most_steps → shape_of b w i ≡ row_shape_answer b w i
        unfolding row_shape_answer
        shape-found h = rw (le-ltb most_reversion b hb, le-ltb most_steps w hw, le-ltb w i hi, lt-leb most_steps i h)

  pub shape-built :
      {half next start widest : ℕ} → half ≡ half_width b i → next ≡ half_width b (i + 1) → start ≡ row_start b i → widest ≡ half_width b w →
      ◌≡◌ {A = RowShape}
      (record { number = 0; start = start; count = 2 * half + 1; next = 2 * next + 1; offset = widest - half }) (shape_of b w i)
  unfolding node_count
  shape-built eh en es ew = let z = add-one i in rw (eh, en, es, ew, z)

  -- the row's part of a table of row w's nodes
  module _ (hi : i ≤ w) where
    pub offset-is : half_width b i + table_offset b w i ≡ half_width b w
    offset-is = omega (arith, half-later b i w hi)

    pub table-room : table_offset b w i + node_count b i ≤ node_count b w
    unfolding node_count
    table-room = omega (arith, offset-is)

    pub shape-fits : w ≤ most_steps → (s : RowShape) → s ≡ shape_of b w i → (s.offset + s.count ≤ node_count b w) × (node_count b w ≤ most_nodes)
    shape-fits few s e = rw e (table-room, count-within b w few)
