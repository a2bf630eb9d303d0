-- What the entries answer and leave, by what the code found, over plain variables.
-- Assumes nothing.
use mathlib.Core.Path.{◌≡◌, refl, sym, ap, ap₂, ◌∙◌}
use Prim.Native.Nat.{ℕ, ◌+◌, ◌-◌, ◌≤◌}
use mathlib.Core.List.{List}
use native.Mathlib.Omega.{arith}
use borrow.Author.Tests.{eq-eqb, ne_eqb}
use borrow.Rule.Slice.PartMut.{mid_of, put_mid}
use lib.Ieee.{Float}
use lib.ListN.{length, set}
use Rattle.arithmetic.specs.Row.{place}
use Rattle.arithmetic.proofs.Numbers.{by_equal}
use Rattle.arithmetic.proofs.Implied.{Implied, lastly, ◌▸◌}
use Rattle.limits.specs.Limits.{most_state_prices}
use Rattle.lattice.specs.Shape.{discounts_needed}
use Rattle.spacing.specs.Spacing.{spacing}
use Rattle.fitted_laws.specs.Entry.{fit_number, fit_memory, fit_discounts, discounts_after}
use Rattle.fitted_laws.proofs.FittedTree.{fit-discounts-length}
use Rattle.shelf_laws.specs.declared.Slot.{Slot}
use Rattle.shelf_laws.specs.declared.Part.{Part}
use Rattle.shelf_laws.specs.declared.Located.{Located}
use Rattle.shelf_laws.specs.Parts.{part, opened, closed}
use Rattle.shelf_laws.specs.Shelf.{room, empty_slot, awaiting_slot, fitted_slot, status_of, slot_of}
use Rattle.shelf_laws.specs.Shelf.{start_of, nodes_of, name_cause, discounts_of, located_tree, part_of}
use Rattle.shelf_laws.specs.Shelf.{ask_number, ask_slots, ask_memory, release_slots, release_memory}
use Rattle.shelf_laws.specs.Shelf.{commit_number, commit_slots, commit_part, commit_memory}
use Rattle.shelf_laws.proofs.PartLaws.{part_length, part-written, part-back-to, lent-count, lent-part}
use Rattle.shelf_laws.proofs.FitParts.{part-size}
use Rattle.shelf_laws.proofs.NameLaws.{cause-awaiting, located-is, none_found, There, tree-found}

-- ---- a fit on a part that was lent and has come back
module _ {f n b s : ℕ} {rows kinds : List ℕ} {figures : List Float} {m prices : List ℕ} {at count r : ℕ}
    (_ : Implied (f ▸ n ▸ b ▸ s ▸ rows ▸ kinds ▸ figures ▸ m ▸ prices ▸ at ▸ lastly count))
    (fits : at + count ≤ length m) (long : length prices ≡ most_state_prices)
    (number : r ≡ fit_number f n b s rows kinds figures (length (mid_of at (at + count - at) m)) (length prices)) where
  pub lent-number : r ≡ fit_number f n b s rows kinds figures count most_state_prices
  lent-number =
      number
      ∙ ap (λ (d : ℕ). fit_number f n b s rows kinds figures d (length prices)) (lent-count m at count fits)
      ∙ ap (λ (p : ℕ). fit_number f n b s rows kinds figures count p) long

  pub lent-fitted : {last : List ℕ} → last ≡ discounts_after f n b s rows kinds figures (mid_of at (at + count - at) m) prices →
      length last ≡ length (mid_of at (at + count - at) m) →
      put_mid at (at + count - at) m last ≡ place m at (fit_memory r (fit_discounts f n b (spacing f s) kinds figures) (part m at count))
  lent-fitted {last} e same =
      let is : last ≡ fit_memory r (fit_discounts f n b (spacing f s) kinds figures) (part m at count) =
      e
      ∙ ap (λ (x : ℕ). fit_memory x (fit_discounts f n b (spacing f s) kinds figures) (mid_of at (at + count - at) m)) (sym number)
      ∙ ap (λ (x : List ℕ). fit_memory r (fit_discounts f n b (spacing f s) kinds figures) x) (lent-part m at count) in
      part-back-to m at (at + count) (fit_memory r (fit_discounts f n b (spacing f s) kinds figures) (part m at count)) last (omega arith) is
      (ap length (sym is) ∙ same ∙ lent-count m at count fits ∙ omega arith)

-- ---- asking
module _ (slots : List Slot) (name n b : ℕ) {r : ℕ} (er : r ≡ ask_number slots name n b) where
  pub ask-slots-left : (r ≡ 0 → ⊥) → slots ≡ ask_slots slots name n b
  unfolding ask_slots
  ask-slots-left h = rw (← er, ne_eqb r 0 h)

  pub ask-memory-left : (m : List ℕ) → (r ≡ 0 → ⊥) → m ≡ ask_memory slots m name n b
  unfolding ask_memory
  ask-memory-left m h = rw (← er, ne_eqb r 0 h)

  module _ (z : r ≡ 0) where
    pub ask-slots : (next : Slot) (after : List Slot) → next ≡ awaiting_slot n b → after ≡ set slots (name - 1) next → after ≡ ask_slots slots name n b
    unfolding ask_slots
    ask-slots next after en ea = ea ∙ ap (λ (x : Slot). set slots (name - 1) x) en ∙ rw (← er, eq-eqb r 0 z)

    pub ask-memory : (m last : List ℕ) (at count : ℕ) → at ≡ start_of slots name → count ≡ discounts_needed n b → last ≡ opened m at count →
        last ≡ ask_memory slots m name n b
    unfolding ask_memory
    ask-memory m last at count ea ec p = p ∙ rw (ea, ec, ← er, eq-eqb r 0 z)

-- ---- releasing
module _ (slots : List Slot) (name : ℕ) where
  pub release-slots-left : name_cause slots name ≡ 15 → slots ≡ release_slots slots name
  unfolding release_slots
  release-slots-left h = rw h

  pub release-memory-left : (m : List ℕ) → name_cause slots name ≡ 15 → m ≡ release_memory slots m name
  unfolding release_memory
  release-memory-left m h = rw h

  module _ (l : Located) (e : l ≡ located_tree slots name) (t : There slots name l e) where
    pub release-slots : (next : Slot) (after : List Slot) → next ≡ empty_slot → after ≡ set slots (name - 1) next → after ≡ release_slots slots name
    unfolding release_slots
    release-slots next after en ea = ea ∙ ap (λ (x : Slot). set slots (name - 1) x) en ∙ rw (eq-eqb (name_cause slots name) 0 t.cause)

    pub release-memory : (m last : List ℕ) → last ≡ closed m l.start l.count → last ≡ release_memory slots m name
    unfolding release_memory
    release-memory m last p = p ∙ rw (t.start_is, t.count-is, eq-eqb (name_cause slots name) 0 t.cause)

  -- where its discounts stand
  pub part-is : (l : Located) → l ≡ located_tree slots name → ◌≡◌ {A = Part} (record { start = l.start; count = l.count }) (part_of slots name)
  part-is l e = rw e

  pub part-found : (m : List ℕ) → name_cause slots name ≡ 0 → part m (part_of slots name).start (part_of slots name).count ≡ discounts_of slots m name
  part-found m z =
      let t = slot_of slots name in
      ap (λ (l : Located). part m l.start l.count) (sym (located-is slots name z t (start_of slots name) (nodes_of t) refl refl refl))

-- ---- committing
module _ (slots : List Slot) (name : ℕ) (l : Located) (e : l ≡ located_tree slots name) where
  pub not-awaiting : (l.status ≡ 1 → ⊥) → status_of slots name ≡ 1 → ⊥
  not-awaiting z h =
      by_equal l.status 0
      (λ (y : l.status ≡ 0). let none : ⊥ = omega (arith, none_found slots name l e y, cause-awaiting slots name h) in none)
      (λ (y : l.status ≡ 0 → ⊥). let t = tree-found slots name l e y in z (t.status-is ∙ sym t.name-known.status ∙ h))

  pub awaiting : l.status ≡ 1 → There slots name l e × (status_of slots name ≡ 1)
  awaiting h = let t = tree-found slots name l e (λ z. omega arith) in (t, t.name-known.status ∙ sym t.status-is ∙ h)

module _ {slots : List Slot} {name f s : ℕ} {rows kinds : List ℕ} {figures : List Float}
    (_ : Implied (slots ▸ name ▸ f ▸ s ▸ rows ▸ kinds ▸ lastly figures)) where
  pub commit-15 : (status_of slots name ≡ 1 → ⊥) → 15 ≡ commit_number slots name f s rows kinds figures
  unfolding commit_number
  commit-15 h = rw (ne_eqb (status_of slots name) 1 h)

  pub memory-15 : {m : List ℕ} → (status_of slots name ≡ 1 → ⊥) → m ≡ commit_memory slots m name f s rows kinds figures
  unfolding commit_memory
  memory-15 h = rw (ne_eqb (status_of slots name) 1 h)

  pub slots-left : (m : List ℕ) {r : ℕ} → r ≡ commit_number slots name f s rows kinds figures → (r ≡ 0 → ⊥) →
      slots ≡ commit_slots slots m name f s rows kinds figures
  unfolding commit_slots
  slots-left m {r} er h = rw (← er, ne_eqb r 0 h)

  module _ {l : Located} (e : l ≡ located_tree slots name) (h : l.status ≡ 1) where
    pub commit-number : {r : ℕ} → r ≡ fit_number f l.steps l.reversion s rows kinds figures l.count most_state_prices →
        r ≡ commit_number slots name f s rows kinds figures
    unfolding commit_number
    commit-number p =
        let a = awaiting slots name l e h in
        let t = a.0 in
        p ∙ rw (t.steps-is, t.reversion-is, t.count-is, eq-eqb (status_of slots name) 1 a.1)

    module _ {r : ℕ} (er : r ≡ commit_number slots name f s rows kinds figures) where
      pub commit-memory : (m : List ℕ) {last : List ℕ} →
          last ≡ place m l.start (fit_memory r (fit_discounts f l.steps l.reversion (spacing f s) kinds figures) (part m l.start l.count)) →
          last ≡ commit_memory slots m name f s rows kinds figures
      unfolding commit_memory commit_part
      commit-memory m p =
          let a = awaiting slots name l e h in
          let t = a.0 in
          p ∙ rw (er, t.start_is, t.steps-is, t.reversion-is, t.count-is, eq-eqb (status_of slots name) 1 a.1)

      -- the tree's part, as the fit leaves it
      fitted-part : (m : List ℕ) → length m ≡ room →
          part (place m l.start (fit_memory r (fit_discounts f l.steps l.reversion (spacing f s) kinds figures) (part m l.start l.count)))
          l.start l.count
          ≡ commit_part slots name f s rows kinds figures m
      unfolding commit_part
      fitted-part m long =
          let t = (awaiting slots name l e h).0 in
          let fitted = fit_discounts f l.steps l.reversion (spacing f s) kinds figures in
          let before = part m l.start l.count in
          let whole : length before ≡ l.count = part_length m l.start l.count (omega (arith, t.fits)) in
          let needed : length fitted ≡ l.count =
          fit-discounts-length f l.steps l.reversion (spacing f s) kinds figures
          ∙ ap₂ discounts_needed t.steps-is t.reversion-is
          ∙ sym t.tree.nodes
          ∙ sym t.count-is in
          let size : length (fit_memory r fitted before) ≡ l.count = part-size r fitted before (whole ∙ sym needed) ∙ needed in
          ap (part (place m l.start (fit_memory r fitted before)) l.start) (sym size)
          ∙ part-written m l.start (fit_memory r fitted before) (omega (arith, t.fits))
          ∙ rw (er, t.start_is, t.steps-is, t.reversion-is, t.count-is)

      pub commit-slots : r ≡ 0 → (m : List ℕ) {last : List ℕ} {next : Slot} {after : List Slot} → length m ≡ room →
          last ≡ place m l.start (fit_memory r (fit_discounts f l.steps l.reversion (spacing f s) kinds figures) (part m l.start l.count)) →
          next ≡ fitted_slot l.steps l.reversion (part last l.start l.count) → after ≡ set slots (name - 1) next →
          after ≡ commit_slots slots m name f s rows kinds figures
      unfolding commit_slots
      commit-slots z m long el en ea =
          let t = (awaiting slots name l e h).0 in
          let d = ap (λ (x : List ℕ). part x l.start l.count) el ∙ fitted-part m long in
          ea
          ∙ ap (λ (x : Slot). set slots (name - 1) x) (en ∙ ap (fitted_slot l.steps l.reversion) d)
          ∙ rw (t.steps-is, t.reversion-is, ← er, eq-eqb r 0 z)
