-- What each slot's discounts are after one slot changed: its own, and those of every other slot.
-- Assumes nothing.
use mathlib.Core.Path.{◌≡◌, refl, ap, ◌∙◌}
use Prim.Native.Nat.{ℕ, zero, suc, ◌+◌, ◌≤◌, ◌<◌}
use mathlib.Core.List.{List}
use native.Mathlib.Omega.{arith}
use lib.ListN.{length, set}
use lib.Seq.{get_or-set_same, get_or-set_other}
use Rattle.arithmetic.specs.Row.{place}
use Rattle.arithmetic.proofs.Numbers.{by_order, by_equal}
use Rattle.shelf_laws.specs.Parts.{zeros, part, opened, closed}
use Rattle.shelf_laws.specs.declared.Slot.{Slot}
use Rattle.shelf_laws.specs.Shelf.{room, slot_at, nodes_of, nodes_before, nodes_held, discounts_at}
use Rattle.shelf_laws.proofs.PartLaws.{part-opened-before, part-opened-new, part-opened-after, part-closed-before, part-closed-after}
use Rattle.shelf_laws.proofs.PartLaws.{part-written, part-written-before, part-written-after}
use Rattle.shelf_laws.proofs.SlotLaws.{ends-before}

-- a shelf whose trees fit the memory
pub record Sound (slots : List Slot) (m : List ℕ) : Type 0 where
  pub size : length slots ≡ 8
  pub long : length m ≡ room
  pub fits : nodes_held slots ≤ room

module _ (slots : List Slot) (i : ℕ) (t : Slot) where
  pub slot-other : (j : ℕ) → (j ≡ i → ⊥) → slot_at (set slots i t) j ≡ slot_at slots j
  unfolding slot_at
  slot-other j h = get_or-set_other slots i j t _ h

  pub slot_same : i < length slots → slot_at (set slots i t) i ≡ t
  unfolding slot_at
  slot_same h = get_or-set_same slots i t _ h

  -- the nodes of the slots before it are as they were
  before-low : (j : ℕ) → j ≤ i → nodes_before (set slots i t) j ≡ nodes_before slots j
  unfolding nodes_before
  before-low zero h = refl
  before-low (suc j) h = rw (before-low j (omega arith), slot-other j (λ e. omega arith))

  -- those of the slots from it on have changed by its change
  before-high : i < length slots → (j : ℕ) → i < j → nodes_before (set slots i t) j + nodes_of (slot_at slots i) ≡ nodes_before slots j + nodes_of t
  unfolding nodes_before
  before-high l zero h = let none : ⊥ = omega arith in absurd none
  before-high l (suc j) h =
      by_equal j i
      (λ (e : j ≡ i).
      let p : slot_at (set slots i t) j ≡ t = rw e (slot_same l) in
      let q : slot_at slots j ≡ slot_at slots i = ap (slot_at slots) e in
      rw (p, q, before-low j (omega arith)) (omega arith))
      (λ (e : j ≡ i → ⊥). rw (slot-other j e) (omega (arith, before-high l j (omega arith))))

module _ (slots : List Slot) (m : List ℕ) (s : Sound slots m) (i : ℕ) (low : i < 8) (t : Slot) where
  inside : i < length slots
  inside = omega (arith, s.size)

  ends : (j : ℕ) → j < 8 → nodes_before slots j + nodes_of (slot_at slots j) ≤ nodes_held slots
  ends j h = ends-before slots j 8 h

  later : (j : ℕ) → i < j → nodes_before slots i + nodes_of (slot_at slots i) ≤ nodes_before slots j
  later j h = ends-before slots i j h

  earlier : (j : ℕ) → j < i → nodes_before slots j + nodes_of (slot_at slots j) ≤ nodes_before slots i
  earlier j h = ends-before slots j i h

  -- the nodes held change by the slot's change
  pub held-changed : nodes_held (set slots i t) + nodes_of (slot_at slots i) ≡ nodes_held slots + nodes_of t
  held-changed = before-high slots i t inside 8 low

  -- ---- a tree is set aside in a slot that had none
  module _ (empty : nodes_of (slot_at slots i) ≡ 0) (space : nodes_of t + nodes_held slots ≤ room) where
    first : nodes_before slots i + nodes_of t ≤ length m
    first = omega (arith, s.long, ends i low)

    pub own-asked : discounts_at (set slots i t) (opened m (nodes_before slots i) (nodes_of t)) i ≡ zeros (nodes_of t)
    own-asked =
        rw (before-low slots i t i (omega arith), slot_same slots i t inside) (part-opened-new m (nodes_before slots i) (nodes_of t) first)

    pub other-asked : (j : ℕ) → j < 8 → (j ≡ i → ⊥) →
        discounts_at (set slots i t) (opened m (nodes_before slots i) (nodes_of t)) j ≡ discounts_at slots m j
    other-asked j h e =
        by_order j i
        (λ (l : j ≤ i).
        let l' : j < i = omega arith in
        rw (before-low slots i t j l, slot-other slots i t j e)
        (part-opened-before m (nodes_before slots i) (nodes_of t) first (nodes_before slots j) (nodes_of (slot_at slots j)) (earlier j l')))
        (λ (l : i < j).
        let p : nodes_before (set slots i t) j ≡ nodes_before slots j + nodes_of t = omega (arith, before-high slots i t inside j l) in
        rw (p, slot-other slots i t j e)
        (part-opened-after m (nodes_before slots i) (nodes_of t) first (nodes_before slots j) (nodes_of (slot_at slots j))
        (omega (arith, later j l)) (omega (arith, s.long, ends j h))))

  -- ---- a tree is released
  module _ (gone : nodes_of t ≡ 0) where
    whole : nodes_before slots i + nodes_of (slot_at slots i) ≤ length m
    whole = omega (arith, s.long, s.fits, ends i low)

    pub other-released : (j : ℕ) → j < 8 → (j ≡ i → ⊥) →
        discounts_at (set slots i t) (closed m (nodes_before slots i) (nodes_of (slot_at slots i))) j ≡ discounts_at slots m j
    other-released j h e =
        by_order j i
        (λ (l : j ≤ i).
        let l' : j < i = omega arith in
        rw (before-low slots i t j l, slot-other slots i t j e)
        (part-closed-before m (nodes_before slots i) (nodes_of (slot_at slots i)) whole (nodes_before slots j) (nodes_of (slot_at slots j)) (earlier j l')))
        (λ (l : i < j).
        let p : nodes_before (set slots i t) j + nodes_of (slot_at slots i) ≡ nodes_before slots j = omega (arith, before-high slots i t inside j l) in
        rw (slot-other slots i t j e)
        (part-closed-after m (nodes_before slots i) (nodes_of (slot_at slots i)) whole (nodes_before (set slots i t) j) (nodes_of (slot_at slots j))
        (omega (arith, later j l)) (omega (arith, s.long, s.fits, ends j h))
        ∙ ap (λ (k : ℕ). part m k (nodes_of (slot_at slots j))) p))

  -- ---- a tree's discounts are written, its number of nodes as it was
  module _ (row : List ℕ) (same : nodes_of t ≡ nodes_of (slot_at slots i)) (count : length row ≡ nodes_of (slot_at slots i)) where
    filled : nodes_before slots i + length row ≤ length m
    filled = omega (arith, s.long, s.fits, ends i low)

    before_same : (j : ℕ) → nodes_before (set slots i t) j ≡ nodes_before slots j
    before_same j = by_order j i (λ (l : j ≤ i). before-low slots i t j l) (λ (l : i < j). omega (arith, before-high slots i t inside j l))

    pub own-written : discounts_at (set slots i t) (place m (nodes_before slots i) row) i ≡ row
    own-written =
        rw (before_same i, slot_same slots i t inside, same, ← count) (part-written m (nodes_before slots i) row filled)

    pub other-written : (j : ℕ) → j < 8 → (j ≡ i → ⊥) → discounts_at (set slots i t) (place m (nodes_before slots i) row) j ≡ discounts_at slots m j
    other-written j h e =
        rw (before_same j, slot-other slots i t j e)
        (by_order j i
        (λ (l : j ≤ i).
        let l' : j < i = omega arith in
        part-written-before m (nodes_before slots i) row filled (nodes_before slots j) (nodes_of (slot_at slots j)) (earlier j l'))
        (λ (l : i < j). part-written-after m (nodes_before slots i) row filled (nodes_before slots j) (nodes_of (slot_at slots j)) (omega (arith, later j l))))
