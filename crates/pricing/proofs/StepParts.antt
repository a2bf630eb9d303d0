-- One step back, in the code's terms: the row's shape, and its parts of the table and of the discounts.
-- Assumes nothing.
use mathlib.Core.Path.{◌≡◌, sym, ap, ap₂, ◌∙◌}
use mathlib.Core.Bool.{Bool}
use mathlib.Core.List.{List}
use Prim.Native.Nat.{ℕ, suc, ◌+◌, ◌≤◌, ◌<◌}
use native.Mathlib.Nat.{mul-le-mul}
use native.Mathlib.Omega.{arith}
use lib.ListN.{length, take, drop}
use Rattle.arithmetic.proofs.PartLaws.{part_length}
use Rattle.limits.specs.Limits.{most_steps, most_nodes, most_discounts}
use Rattle.lattice.specs.declared.RowShape.{RowShape}
use Rattle.lattice.specs.Shape.{node_count, row_start}
use Rattle.lattice.specs.Entries.{table_offset, shape_of, row_shape_answer}
use Rattle.lattice.proofs.Sizes.{count-within, row_ends, start-most}
use Rattle.lattice.proofs.ShapeLaws as shapes
use Rattle.lent_tree.specs.LentTree.{Accepted}
use Rattle.pricing_laws.specs.Pricer.{Side}
use Rattle.pricing.specs.inside.Rows.{bond_values, option_values, Rollable, Limited, Later, FilledRow, FilledRows}
use Rattle.pricing.specs.inside.Trees.{down_table, bond_step, option_step}
use Rattle.pricing.specs.inside.Strips.{Paid, Laid, strike_values, strike_step}
use Rattle.pricing.proofs.TreeRows as rows

module _ (n b i : ℕ) (discounts : List ℕ) (a : Accepted n b discounts) (hi : i < n) (s : RowShape) (es : s ≡ row_shape_answer b n i) where
  shape : s ≡ shape_of b n i
  shape =
      let few = a.limits.steps-within-limit in
      es ∙ sym (shapes.shape-found b n i a.limits.reversion-within-limit few (omega arith) (omega (arith, few)))

  pub count-is : s.count ≡ node_count b i
  count-is = ap (λ (x : RowShape). x.count) shape

  pub start_is : s.start ≡ row_start b i
  start_is = ap (λ (x : RowShape). x.start) shape

  offset-is : s.offset ≡ table_offset b n i
  offset-is = ap (λ (x : RowShape). x.offset) shape

  next-is : s.next ≡ node_count b (suc i)
  next-is = ap (λ (x : RowShape). x.next) shape

  pub discount-room : s.start + s.count ≤ length discounts
  discount-room = rw (start_is, count-is) (rows.discounts-fit n b i hi discounts a)

  pub shape-within : s.count ≤ most_nodes
  shape-within = omega (arith, count-is, count-within b i (omega (arith, a.limits.steps-within-limit)))

  -- the memory of the kept rows holds every row
  pub kept-room : (kept : List ℕ) → most_discounts ≤ length kept → s.start + s.count ≤ length kept
  kept-room kept long =
      let few = a.limits.steps-within-limit in
      omega (arith, start_is, count-is, row_ends b i n hi, start-most b n, mul-le-mul {n₁ = n} {m₁ = n} {n₂ = most_steps} {m₂ = most_steps} few few)

  -- a row that is laid by its shape
  pub part-laid : (before after : List ℕ) (f : ℕ → ℕ) → Laid before after s.start s.count f → Laid before after (row_start b i) (node_count b i) f
  part-laid before after f h = rw (start_is, count-is) at h

  -- a later row that may be rolled back: the next row is no wider than the widest
  pub later-next : (later : List ℕ) → length later ≡ most_nodes → Limited later (node_count b (i + 1)) → Later later s.next
  later-next later room l =
      let z : node_count b (i + 1) ≡ s.next = ap (node_count b) (omega arith) ∙ sym next-is in
      record { room = omega (arith, next-is, count-within b (suc i) (omega (arith, a.limits.steps-within-limit))); limited = λ k h. l k (omega arith) }

  module _ (part : List ℕ) (ep : part ≡ take s.count (drop s.start discounts)) where
    part-is : part ≡ rows.discount-part n b i hi discounts a
    part-is = ep ∙ ap₂ (λ (x y : ℕ). take x (drop y discounts)) count-is start_is

    pub part-beside : (kept bare : List ℕ) → most_discounts ≤ length kept → bare ≡ take s.count (drop s.start kept) → length part ≤ length bare
    part-beside kept bare long eb =
        omega (
          arith,
          ap length part-is,
          rows.discount-part-length n b i hi discounts a,
          ap length eb,
          part_length kept s.start s.count (kept-room kept long),
          count-is,
        )

    pub part-within : length part ≤ most_nodes
    part-within =
        let count = count-within b i (omega (arith, a.limits.steps-within-limit)) in
        omega (arith, ap length part-is, rows.discount-part-length n b i hi discounts a, count)

    module _ (downs : List ℕ) (et : downs ≡ down_table n b) (table : List ℕ) (ed : table ≡ take s.count (drop s.offset downs)) where
      table_is : table ≡ rows.table-part n b i hi discounts a
      table_is =
          ed
          ∙ ap₂ (λ (x y : ℕ). take x (drop y downs)) count-is offset-is
          ∙ ap (λ (l : List ℕ). take (node_count b i) (drop (table_offset b n i) l)) et

      pub part-rollable : Rollable table part s.next
      part-rollable = rw (table_is, part-is, next-is) (rows.rollable n b i hi discounts a)

      module _ (flow : ℕ) where
        pub part-bond :
            (later after : List ℕ) (top : ℕ) → FilledRow after (length part) (bond_values later table part s.next flow) top →
            FilledRow after (node_count b i) (bond_step b discounts flow i later) top
        part-bond later after top h = rows.bond-row-is n b i hi discounts a flow later after top (rw (table_is, part-is, next-is) at h)

        -- each of its values has the row's flow
        pub part-paid :
            (later after : List ℕ) (top : ℕ) → FilledRow after (length part) (bond_values later table part s.next flow) top → Paid after s.count flow
        part-paid later after top h k l = omega (arith, (part-bond later after top h).held k (omega (arith, count-is)))

        pub part-option :
            (side : Side) (strike : ℕ) (listed : Bool) (bonds options : List ℕ) {bond option : List ℕ} {top : ℕ} →
            FilledRows bond option (length part) (bond_values bonds table part s.next flow)
            (option_values side strike listed bonds options table part s.next) top →
            FilledRows bond option (node_count b i) (bond_step b discounts flow i bonds)
            (option_step side strike listed b discounts i bonds options) top
        part-option side strike listed bonds options {bond} {option} {top} h =
            rows.option-row-is n b i hi discounts a flow side strike listed bonds options bond option top
            (rw (table_is, part-is, next-is) at h)

        pub part-strike :
            (side : Side) (strike : ℕ) (listed : Bool) (kept : List ℕ) {bare : List ℕ} (options : List ℕ) {option : List ℕ} {top : ℕ} →
            bare ≡ take s.count (drop s.start kept) →
            FilledRow option (length part) (strike_values side strike listed bare options table part s.next) top →
            FilledRow option (node_count b i) (strike_step side strike listed b discounts i kept options) top
        part-strike side strike listed kept options {option} {top} eb h =
            let bare-is = eb ∙ ap₂ (λ (x y : ℕ). take x (drop y kept)) count-is start_is in
            rows.strike-row-is n b i hi discounts a side strike listed kept options option top
            (rw (table_is, part-is, next-is, bare-is) at h)

  pub table-room : (downs : List ℕ) → downs ≡ down_table n b → s.offset + s.count ≤ length downs
  table-room downs e = rw (e, offset-is, count-is, rows.table-size n b) (shapes.table-room b n i (omega arith))
