-- The desk that slots and memory stand for: its figures, its numbers and prices, and how one changed slot shows there.
-- Assumes nothing.
use mathlib.Core.Path.{◌≡◌, refl, sym, ap, ◌∙◌}
use Prim.Native.Nat.{ℕ, zero, suc, ◌+◌, ◌-◌, ◌≤◌, ◌<◌}
use mathlib.Core.List.{List}
use native.Mathlib.Omega.{arith}
use borrow.Author.Tests.{lt-ltb, le-ltb, eq-eqb, ne_eqb}
use lib.ListN.{length, set, length-set, get_or-eq_default}
use Rattle.arithmetic.proofs.Numbers.{by_order, by_equal}
use Rattle.shelf_laws.specs.declared.Slot.{Slot}
use Rattle.shelf_laws.specs.Shelf.{room, slot_at, nodes_of, nodes_before, nodes_held, status_of, slot_of, discounts_at, discounts_of, name_cause, ask_number}
use Rattle.shelf_prices.specs.ShelfPrices.{shelf_price}
use Rattle.shelf_laws.proofs.PartLaws.{part_length}
use Rattle.shelf_laws.proofs.SlotLaws.{nodes-none, by-slot, Sane, ends-before}
use Rattle.shelf_laws.proofs.NameLaws.{status-zero, status-high, status-good, there}
use Rattle.price_laws.specs.declared.Price.{Price}
use Rattle.shelf_promises.specs.Model.{Seen, absent, Pricing, Call, asking, releasing, pricing}
use Rattle.shelf_promises.specs.Model.{nodes_seen, status_seen, steps_seen, reversion_seen, discounts_seen, bound_seen, held_by}
use Rattle.shelf_promises.specs.Model.{desk_status, desk_cause, desk_price, desk_number, put, desk_taken, desk_after}
use Rattle.shelf_promises.specs.History.{Kept, seen_slot, seen, price_of, number_of}
use Rattle.shelf_promises.proofs.Others.{Sound, slot-other}

-- ---- one slot
module _ (t : Slot) (d : List ℕ) where
  status-seen : t.status ≤ 2 → status_seen (seen_slot t d) ≡ t.status
  status-seen h =
      by_equal t.status 0
      (λ (e : t.status ≡ 0). rw e)
      (λ (z : t.status ≡ 0 → ⊥). by_equal t.status 1
      (λ (e : t.status ≡ 1). rw e)
      (λ (o : t.status ≡ 1 → ⊥). let e : t.status ≡ 2 = omega arith in rw e))

  size-seen : length d ≡ nodes_of t → nodes_seen (seen_slot t d) ≡ nodes_of t
  size-seen h =
      by_equal t.status 0
      (λ (e : t.status ≡ 0). rw (eq-eqb t.status 0 e) (sym (nodes-none t e)))
      (λ (z : t.status ≡ 0 → ⊥). rw (ne_eqb t.status 0 z) h)

  module _ (z : t.status ≡ 0 → ⊥) where
    steps-seen : steps_seen (seen_slot t d) ≡ t.steps
    steps-seen = rw (ne_eqb t.status 0 z)

    reversion-seen : reversion_seen (seen_slot t d) ≡ t.reversion
    reversion-seen = rw (ne_eqb t.status 0 z)

    discounts-seen : discounts_seen (seen_slot t d) ≡ d
    discounts-seen = rw (ne_eqb t.status 0 z)

    bound-seen : bound_seen (seen_slot t d) ≡ t.bound
    bound-seen = rw (ne_eqb t.status 0 z)

-- ---- the whole shelf
seen_same : (k j : Kept) (i : ℕ) → slot_at j.slots i ≡ slot_at k.slots i →
    discounts_at j.slots j.memory i ≡ discounts_at k.slots k.memory i → seen j i ≡ seen k i
unfolding seen
seen_same k j i p q =
    ap (λ (t : Slot). seen_slot t (discounts_at j.slots j.memory i)) p ∙ ap (λ (d : List ℕ). seen_slot (slot_at k.slots i) d) q

pub seen-out : (k : Kept) (i : ℕ) → length k.slots ≡ 8 → 8 ≤ i → seen k i ≡ absent
unfolding seen slot_at
seen-out k i e h = ap (λ (t : Slot). seen_slot t (discounts_at k.slots k.memory i)) (get_or-eq_default k.slots _ {n = i} (omega arith))

module _ (k : Kept) (s : Sound k.slots k.memory) where
  part-whole : (i : ℕ) → i < 8 → length (discounts_at k.slots k.memory i) ≡ nodes_of (slot_at k.slots i)
  part-whole i h =
      part_length k.memory (nodes_before k.slots i) (nodes_of (slot_at k.slots i)) (omega (arith, s.long, s.fits, ends-before k.slots i 8 h))

  before-seen : (i : ℕ) → i ≤ 8 → nodes_before k.slots i ≡ held_by (seen k) i
  unfolding nodes_before held_by seen
  before-seen zero h = refl
  before-seen (suc i) h =
      ap (λ (x : ℕ). x + nodes_of (slot_at k.slots i)) (before-seen i (omega arith))
      ∙ ap (λ (x : ℕ). held_by (seen k) i + x) (sym (size-seen (slot_at k.slots i) (discounts_at k.slots k.memory i) (part-whole i (omega arith))))

  pub held-seen : nodes_held k.slots ≡ held_by (seen k) 8
  held-seen = before-seen 8 (omega arith)

  pub status-small : (i : ℕ) → i < 8 → (slot_at k.slots i).status ≤ 2
  status-small i h =
      let t = slot_at k.slots i in
      by-slot t
      (λ (e : t.status ≡ 0). omega arith)
      (λ (e : nodes_of t ≡ suc room). let none : ⊥ = omega (arith, s.fits, ends-before k.slots i 8 h) in absurd none)
      (λ (e : Sane t). e.status-high)

  pub status-is : (name : ℕ) → status_of k.slots name ≡ desk_status (seen k) name
  unfolding desk_status seen
  status-is name =
      by_equal name 0
      (λ (z : name ≡ 0). rw (eq-eqb name 0 z) (status-zero k.slots name z))
      (λ (z : name ≡ 0 → ⊥). by_order name 8
      (λ (h : name ≤ 8).
      let shown = status-seen (slot_at k.slots (name - 1)) (discounts_at k.slots k.memory (name - 1)) (status-small (name - 1) (omega arith)) in
      rw (ne_eqb name 0 z, le-ltb 8 name h, shown) (status-good k.slots name z h s.fits))
      (λ (h : 8 < name). rw (ne_eqb name 0 z, lt-ltb 8 name h) (status-high k.slots name h)))

  pub cause-is : (name : ℕ) → name_cause k.slots name ≡ desk_cause (seen k) name
  unfolding name_cause desk_cause
  cause-is name = rw (status-is name)

  -- ---- the numbers and the prices
  pub asking-number : (name n b : ℕ) → number_of k (asking name n b) ≡ desk_number (seen k) (asking name n b)
  unfolding number_of desk_number ask_number
  asking-number name n b = rw (status-is name, held-seen)

  pub releasing-number : (name : ℕ) → number_of k (releasing name) ≡ desk_number (seen k) (releasing name)
  unfolding number_of desk_number
  releasing-number name = cause-is name

  module _ (name : ℕ) (h : name_cause k.slots name ≡ 0) where
    tree-there : (slot_of k.slots name).status ≡ 0 → ⊥
    tree-there e = omega (arith, (there k.slots name h).1)

    pub steps-is : steps_seen (seen k (name - 1)) ≡ (slot_of k.slots name).steps
    unfolding seen
    steps-is = steps-seen (slot_of k.slots name) (discounts_of k.slots k.memory name) tree-there

    pub reversion-is : reversion_seen (seen k (name - 1)) ≡ (slot_of k.slots name).reversion
    unfolding seen
    reversion-is = reversion-seen (slot_of k.slots name) (discounts_of k.slots k.memory name) tree-there

    pub discounts-is : discounts_seen (seen k (name - 1)) ≡ discounts_of k.slots k.memory name
    unfolding seen
    discounts-is = discounts-seen (slot_of k.slots name) (discounts_of k.slots k.memory name) tree-there

    bound-is : bound_seen (seen k (name - 1)) ≡ (slot_of k.slots name).bound
    unfolding seen
    bound-is = bound-seen (slot_of k.slots name) (discounts_of k.slots k.memory name) tree-there

  pub price-is : (name : ℕ) (p : Pricing) → price_of k name p ≡ desk_price (seen k) name p
  unfolding price_of shelf_price desk_price
  price-is name p =
      by_equal (name_cause k.slots name) 0
      (λ (e : name_cause k.slots name ≡ 0).
      let e' : desk_cause (seen k) name ≡ 0 = sym (cause-is name) ∙ e in
      rw (
        eq-eqb (name_cause k.slots name) 0 e,
        eq-eqb (desk_cause (seen k) name) 0 e',
        steps-is name e,
        reversion-is name e,
        discounts-is name e,
        bound-is name e,
      ))
      (λ (e : name_cause k.slots name ≡ 0 → ⊥).
      let e' : desk_cause (seen k) name ≡ 0 → ⊥ = λ z. e (cause-is name ∙ z) in
      rw (ne_eqb (name_cause k.slots name) 0 e, ne_eqb (desk_cause (seen k) name) 0 e'))

  pub pricing-number : (name : ℕ) (p : Pricing) → number_of k (pricing name p) ≡ desk_number (seen k) (pricing name p)
  unfolding number_of desk_number
  pricing-number name p = ap (λ (x : Price). x.number) (price-is name p)

-- ---- one name of the desk
module _ (desk : ℕ → Seen) (i : ℕ) (x : Seen) where
  pub put_same : (j : ℕ) → j ≡ i → x ≡ put desk i x j
  unfolding put
  put_same j e = rw (eq-eqb j i e)

  pub put_other : (j : ℕ) → (j ≡ i → ⊥) → desk j ≡ put desk i x j
  unfolding put
  put_other j e = rw (ne_eqb j i e)

-- a slot was set: the desk shows what it shows there, and all else as before
pub changed : (k : Kept) → Sound k.slots k.memory → (i : ℕ) (t : Slot) (m : List ℕ) (x : Seen) → i < 8 →
    seen (record { slots = set k.slots i t; memory = m }) i ≡ x →
    ((j : ℕ) → j < 8 → (j ≡ i → ⊥) → discounts_at (set k.slots i t) m j ≡ discounts_at k.slots k.memory j) →
    (j : ℕ) → seen (record { slots = set k.slots i t; memory = m }) j ≡ put (seen k) i x j
changed k s i t m x low own others j =
    let next : Kept = record { slots = set k.slots i t; memory = m } in
    by_equal j i
    (λ (e : j ≡ i). ap (seen next) e ∙ own ∙ put_same (seen k) i x j e)
    (λ (e : j ≡ i → ⊥). by_order 8 j
    (λ (h : 8 ≤ j). seen-out next j (length-set k.slots i t ∙ s.size) h ∙ sym (seen-out k j s.size h) ∙ put_other (seen k) i x j e)
    (λ (h : j < 8). seen_same k next j (slot-other k.slots i t j e) (others j h e) ∙ put_other (seen k) i x j e))

-- ---- a call that is accepted, and one that is refused
module _ (desk : ℕ → Seen) (call : Call) where
  pub taken : desk_number desk call ≡ 0 → desk_taken desk call ≡ desk_after desk call
  unfolding desk_after
  taken e = rw e

  pub refused : (desk_number desk call ≡ 0 → ⊥) → desk ≡ desk_after desk call
  unfolding desk_after
  refused e = rw (ne_eqb (desk_number desk call) 0 e)
