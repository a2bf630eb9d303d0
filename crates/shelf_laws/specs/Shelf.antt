-- A shelf (document 02, requests (vii) and (viii)): eight slots, for the names 1 to 8, beside one memory of 3,600 discounts, in which the trees stand in the
-- order of their names, one after the other from the start. What the entries answer and leave, for any slots and any memory.
-- f steps a year, n steps, reversion b, volatility s; quotes as rows, kinds and figures.
-- Assumes nothing.
use Rattle.std.specs.Prelude.{ℕ, zero, suc, ◌+◌, ◌-◌, cond, List, [], eqb, ltb, Float, get_or, set, replicate}
use Rattle.arithmetic.specs.Answers.{unless_refused}
use Rattle.arithmetic.specs.Row.{place}
use Rattle.limits.specs.Limits.{most_steps, most_state_prices, shape_cause}
use Rattle.lattice.specs.Shape.{discounts_needed}
use Rattle.spacing.specs.Spacing.{spacing}
use Rattle.fitted_laws.specs.Entry.{fit_number, fit_memory, fit_discounts}
use Rattle.price_bound.specs.PriceBound.{tree_bounds_answer}
use Rattle.shelf_laws.specs.declared.Slot.{Slot}
use Rattle.shelf_laws.specs.declared.Part.{Part}
use Rattle.shelf_laws.specs.declared.Located.{Located}
use Rattle.shelf_laws.specs.Parts.{part, opened, closed}

-- the nodes that the memory has
abbrev pub room : ℕ
room = 3600

-- ---- slots: status 0 no tree, 1 a tree that awaits its commit, 2 a fitted tree

abbrev pub empty_slot : Slot
empty_slot = record { status = 0; steps = 0; reversion = 0; bound = 0; greatest = replicate most_steps 0 }

abbrev pub awaiting_slot : ℕ → ℕ → Slot
awaiting_slot n b = record { status = 1; steps = n; reversion = b; bound = 0; greatest = replicate most_steps 0 }

-- with what `price_bound::tree_bounds` answers for its discounts
abbrev pub fitted_slot : ℕ → ℕ → List ℕ → Slot
fitted_slot n b discounts =
    record {
      status = 2;
      steps = n;
      reversion = b;
      bound = (tree_bounds_answer n b discounts).bound;
      greatest = (tree_bounds_answer n b discounts).greatest;
    }

-- the empty shelf: no name present, no node held
unfoldable pub empty_slots : List Slot
empty_slots = replicate 8 empty_slot

-- the slot at an index; there is no tree past the slots
unfoldable pub slot_at : List Slot → ℕ → Slot
slot_at slots i = get_or slots i (record { status = 0; steps = 0; reversion = 0; bound = 0; greatest = [] })

-- the nodes of a slot's tree; a slot that no call leaves behind counts as more than the memory has
unfoldable pub nodes_of : Slot → ℕ
nodes_of t =
    cond (eqb t.status 0) 0
    (cond (ltb 2 t.status) (suc room)
    (cond (eqb (shape_cause t.steps t.reversion) 0) (discounts_needed t.steps t.reversion) (suc room)))

-- the nodes of the slots before an index: where that slot's tree starts
unfoldable pub nodes_before : List Slot → ℕ → ℕ
nodes_before slots zero = 0
nodes_before slots (suc i) = nodes_before slots i + nodes_of (slot_at slots i)

-- the nodes held
abbrev pub nodes_held : List Slot → ℕ
nodes_held slots = nodes_before slots 8

-- the discounts of the tree at an index
abbrev pub discounts_at : List Slot → List ℕ → ℕ → List ℕ
discounts_at slots memory i = part memory (nodes_before slots i) (nodes_of (slot_at slots i))

-- a name's status; 3 where the name is outside 1 to 8, or more nodes are held than the memory has, which no calls lead to
unfoldable pub status_of : List Slot → ℕ → ℕ
status_of slots name =
    cond (eqb name 0) 3
    (cond (ltb 8 name) 3
    (cond (ltb room (nodes_held slots)) 3
    (slot_at slots (name - 1)).status))

-- a name's slot, where its discounts start, and the discounts
abbrev pub slot_of : List Slot → ℕ → Slot
slot_of slots name = slot_at slots (name - 1)

abbrev pub start_of : List Slot → ℕ → ℕ
start_of slots name = nodes_before slots (name - 1)

abbrev pub discounts_of : List Slot → List ℕ → ℕ → List ℕ
discounts_of slots memory name = discounts_at slots memory (name - 1)

-- 15 where a name has no tree; else 0
unfoldable pub name_cause : List Slot → ℕ → ℕ
name_cause slots name = cond (eqb (status_of slots name) 1) 0 (cond (eqb (status_of slots name) 2) 0 15)

-- a name's tree, or zeros
unfoldable pub located_tree : List Slot → ℕ → Located
located_tree slots name =
    cond (eqb (name_cause slots name) 0)
    (record {
      status = (slot_of slots name).status;
      start = start_of slots name;
      count = nodes_of (slot_of slots name);
      steps = (slot_of slots name).steps;
      reversion = (slot_of slots name).reversion;
      bound = (slot_of slots name).bound;
    })
    (record { status = 0; start = 0; count = 0; steps = 0; reversion = 0; bound = 0 })

abbrev pub part_of : List Slot → ℕ → Part
part_of slots name = record { start = (located_tree slots name).start; count = (located_tree slots name).count }

-- ---- asking: 15 for the name, 3 and 4 for the tree, 14 for its nodes and those held

module _ (slots : List Slot) where
  unfoldable pub ask_number : ℕ → ℕ → ℕ → ℕ
  ask_number name n b =
      cond (eqb (status_of slots name) 0)
      (cond (eqb (shape_cause n b) 0) (cond (ltb room (discounts_needed n b + nodes_held slots)) 14 0) (shape_cause n b))
      15

  unfoldable pub ask_slots : ℕ → ℕ → ℕ → List Slot
  ask_slots name n b = unless_refused (ask_number name n b) (set slots (name - 1) (awaiting_slot n b)) slots

  unfoldable pub ask_memory : List ℕ → ℕ → ℕ → ℕ → List ℕ
  ask_memory memory name n b = unless_refused (ask_number name n b) (opened memory (start_of slots name) (discounts_needed n b)) memory

-- ---- committing: 15 for the name, or the fit's number on the tree's own part of the memory

module _ (slots : List Slot) (name f s : ℕ) (rows kinds : List ℕ) (figures : List Float) where
  unfoldable pub commit_number : ℕ
  commit_number =
      cond (eqb (status_of slots name) 1)
      (fit_number f (slot_of slots name).steps (slot_of slots name).reversion s rows kinds figures (nodes_of (slot_of slots name)) most_state_prices)
      15

  -- the tree's part as the fit leaves it
  unfoldable pub commit_part : List ℕ → List ℕ
  commit_part memory =
      fit_memory commit_number (fit_discounts f (slot_of slots name).steps (slot_of slots name).reversion (spacing f s) kinds figures)
      (discounts_of slots memory name)

-- slots and memory afterwards
unfoldable pub commit_slots : List Slot → List ℕ → ℕ → ℕ → ℕ → List ℕ → List ℕ → List Float → List Slot
commit_slots slots memory name f s rows kinds figures =
    unless_refused (commit_number slots name f s rows kinds figures)
    (set slots (name - 1)
    (fitted_slot (slot_of slots name).steps (slot_of slots name).reversion (commit_part slots name f s rows kinds figures memory)))
    slots

unfoldable pub commit_memory : List Slot → List ℕ → ℕ → ℕ → ℕ → List ℕ → List ℕ → List Float → List ℕ
commit_memory slots memory name f s rows kinds figures =
    cond (eqb (status_of slots name) 1) (place memory (start_of slots name) (commit_part slots name f s rows kinds figures memory)) memory

-- ---- releasing: 15 for the name

unfoldable pub release_slots : List Slot → ℕ → List Slot
release_slots slots name = unless_refused (name_cause slots name) (set slots (name - 1) empty_slot) slots

unfoldable pub release_memory : List Slot → List ℕ → ℕ → List ℕ
release_memory slots memory name =
    unless_refused (name_cause slots name) (closed memory (start_of slots name) (nodes_of (slot_of slots name))) memory
