-- Each call on slots and memory does to the desk what the model says, keeps the shelf sound, and changes the nodes held by what it sets aside or
-- gives back.
-- Assumes nothing.
use mathlib.Core.Path.{◌≡◌, refl, sym, ap, ◌∙◌, subst}
use Prim.Native.Nat.{ℕ, ◌+◌, ◌-◌, ◌≤◌, ◌<◌}
use mathlib.Core.Bool.{false}
use mathlib.Core.List.{List}
use native.Mathlib.Omega.{arith}
use borrow.Author.Tests.{eq-eqb, ne_eqb}
use lib.ListN.{length, set, length-set}
use Rattle.arithmetic.specs.Row.{place}
use Rattle.arithmetic.proofs.Numbers.{by_equal}
use Rattle.lattice.specs.Shape.{discounts_needed}
use Rattle.spacing.specs.Spacing.{spacing}
use Rattle.fitted_laws.proofs.FittedTree.{fit-discounts-length}
use Rattle.price_bound.proofs.BoundLaws.{bounds-bound, bounds-greatest}
use Rattle.shelf_laws.specs.Parts.{zeros, opened, closed}
use Rattle.shelf_laws.specs.declared.Slot.{Slot}
use Rattle.shelf_laws.specs.Shelf.{room, empty_slot, awaiting_slot, fitted_slot, slot_at, nodes_of, nodes_before, nodes_held}
use Rattle.shelf_laws.specs.Shelf.{status_of, slot_of, discounts_at, discounts_of}
use Rattle.shelf_laws.specs.Shelf.{name_cause, ask_number, ask_slots, ask_memory, commit_number, commit_slots, commit_part, commit_memory, release_slots, release_memory}
use Rattle.shelf_laws.proofs.PartLaws.{part_length, length-opened, length-closed, length-written, place-self}
use Rattle.shelf_laws.proofs.FitParts.{part-fitted, part-zeroed, part_left, part-size}
use Rattle.shelf_laws.proofs.SlotLaws.{nodes-none, nodes-tree, Sane, ends-before}
use Rattle.shelf_laws.proofs.NameLaws.{Known, known, cause-awaiting, there, place-fits, tree-sane, asked}
use Rattle.shelf_promises.specs.Model.{ShelvedTree, Seen, absent, present, Quoted, Pricing, unfitted_tree, fitted_tree, steps_seen, reversion_seen}
use Rattle.shelf_promises.specs.Model.{fit_number_of, fit_discounts_of, Call, asking, committing, releasing, pricing, locating}
use Rattle.shelf_promises.specs.Model.{desk_status, desk_number, put, desk_taken, desk_after}
use Rattle.shelf_promises.specs.History.{Kept, seen_slot, seen, number_of, after}
use Rattle.shelf_promises.specs.History as history
use Rattle.shelf_promises.specs.ShelfPromises.{GoodTree}
use Rattle.shelf_promises.proofs.Others.{Sound, slot_same, held-changed, own-asked, other-asked, other-released, own-written, other-written}
use Rattle.shelf_promises.proofs.DeskLaws.{status-is, asking-number, releasing-number, pricing-number, steps-is, reversion-is, changed, taken, refused}
use Rattle.shelf_promises.proofs.FitRoom.{fit-lent}

-- every tree that is seen is a good one
abbrev pub GoodDesk : (ℕ → Seen) → Type 0
GoodDesk desk = (i : ℕ) (t : ShelvedTree) → desk i ≡ present t → GoodTree t

pub record Follows (k : Kept) (call : Call) : Type 0 where
  pub number : number_of k call ≡ desk_number (seen k) call
  pub desk : (i : ℕ) → seen (after k call) i ≡ desk_after (seen k) call i
  pub sound : Sound (after k call).slots (after k call).memory
  pub nodes : nodes_held (after k call).slots + history.released k call ≡ nodes_held k.slots + history.asked k call
  pub kept : (number_of k call ≡ 0 → ⊥) → after k call ≡ k

-- a call that leaves all as it was, and is refused
unchanged : (k : Kept) (call : Call) → Sound k.slots k.memory → number_of k call ≡ desk_number (seen k) call → (desk_number (seen k) call ≡ 0 → ⊥) →
    after k call ≡ k → history.released k call ≡ 0 → history.asked k call ≡ 0 → Follows k call
unchanged k call s n z e l g =
    record {
      number = n;
      desk = λ i. ap (λ (x : Kept). seen x i) e ∙ ap (λ (f : ℕ → Seen). f i) (refused (seen k) call z);
      sound = subst (λ (x : Kept). Sound x.slots x.memory) (sym e) s;
      nodes = omega (arith, ap (λ (x : Kept). nodes_held x.slots) e);
      kept = λ r. e;
    }

-- a call that is accepted and sets one slot
set-slot : (k : Kept) (call : Call) (i : ℕ) (t : Slot) (m : List ℕ) (x : Seen) → Sound k.slots k.memory → i < 8 →
    number_of k call ≡ desk_number (seen k) call → desk_number (seen k) call ≡ 0 →
    after k call ≡ record { slots = set k.slots i t; memory = m } →
    desk_taken (seen k) call ≡ put (seen k) i x →
    length m ≡ room → nodes_held (set k.slots i t) ≤ room →
    nodes_held (set k.slots i t) + history.released k call ≡ nodes_held k.slots + history.asked k call →
    seen (record { slots = set k.slots i t; memory = m }) i ≡ x →
    ((j : ℕ) → j < 8 → (j ≡ i → ⊥) → discounts_at (set k.slots i t) m j ≡ discounts_at k.slots k.memory j) →
    Follows k call
set-slot k call i t m x s low n z e d long fits count own others =
    record {
      number = n;
      desk =
          λ j.
          ap (λ (y : Kept). seen y j) e
          ∙ changed k s i t m x low own others j
          ∙ ap (λ (f : ℕ → Seen). f j) (sym d ∙ taken (seen k) call z);
      sound =
          subst (λ (y : Kept). Sound y.slots y.memory) (sym e) (record { size = length-set k.slots i t ∙ s.size; long = long; fits = fits });
      nodes = omega (arith, ap (λ (y : Kept). nodes_held y.slots) e);
      kept = λ r. absurd (r (n ∙ z));
    }

-- a call that is accepted and changes nothing
nothing-set : (k : Kept) (call : Call) → Sound k.slots k.memory → number_of k call ≡ desk_number (seen k) call → after k call ≡ k →
    desk_taken (seen k) call ≡ seen k → history.released k call ≡ 0 → history.asked k call ≡ 0 → Follows k call
nothing-set k call s n e d l g =
    record {
      number = n;
      desk =
          λ i.
          ap (λ (x : Kept). seen x i) e
          ∙ by_equal (desk_number (seen k) call) 0
          (λ (z : desk_number (seen k) call ≡ 0). ap (λ (f : ℕ → Seen). f i) (sym d ∙ taken (seen k) call z))
          (λ (z : desk_number (seen k) call ≡ 0 → ⊥). ap (λ (f : ℕ → Seen). f i) (refused (seen k) call z));
      sound = subst (λ (x : Kept). Sound x.slots x.memory) (sym e) s;
      nodes = omega (arith, ap (λ (x : Kept). nodes_held x.slots) e);
      kept = λ r. e;
    }

-- ---- asking
module _ (k : Kept) (s : Sound k.slots k.memory) (name n b : ℕ) where
  ask-number : number_of k (asking name n b) ≡ ask_number k.slots name n b
  unfolding number_of
  ask-number = refl

  ask-released : history.released k (asking name n b) ≡ 0
  unfolding history.released
  ask-released = refl

  ask-taken : desk_taken (seen k) (asking name n b) ≡ put (seen k) (name - 1) (present (unfitted_tree n b))
  unfolding desk_taken
  ask-taken = refl

  ask-shown : (t : Slot) (d : List ℕ) → t ≡ awaiting_slot n b → d ≡ zeros (discounts_needed n b) → seen_slot t d ≡ present (unfitted_tree n b)
  ask-shown t d e f = rw (e, f)

  module _ (e : ask_number k.slots name n b ≡ 0) where
    asked-after : after k (asking name n b)
        ≡ record { slots = set k.slots (name - 1) (awaiting_slot n b); memory = opened k.memory (nodes_before k.slots (name - 1)) (discounts_needed n b) }
    unfolding after ask_slots ask_memory
    asked-after = rw e

    ask-gain : history.asked k (asking name n b) ≡ discounts_needed n b
    unfolding history.asked
    ask-gain = rw e

    ask-follows : Follows k (asking name n b)
    unfolding seen
    ask-follows =
        let a = asked k.slots name n b e in
        let i = name - 1 in
        let low : i < 8 = omega (arith, a.name-known.low, a.name-known.high) in
        let t = awaiting_slot n b in
        let nt : nodes_of t ≡ discounts_needed n b = nodes-tree (awaiting_slot n b) (λ z. omega arith) (omega arith) a.shape in
        let empty : nodes_of (slot_at k.slots i) ≡ 0 = nodes-none (slot_at k.slots i) a.absent in
        let space : nodes_of t + nodes_held k.slots ≤ room = omega (arith, a.space) in
        let m = k.memory in
        let m' = opened m (nodes_before k.slots i) (nodes_of t) in
        let em : opened m (nodes_before k.slots i) (discounts_needed n b) ≡ m' = ap (opened m (nodes_before k.slots i)) (sym nt) in
        let hc = held-changed k.slots m s i low t in
        set-slot k (asking name n b) i t m' (present (unfitted_tree n b)) s low (asking-number k s name n b)
        (sym (asking-number k s name n b) ∙ ask-number ∙ e)
        (asked-after ∙ ap (λ (l : List ℕ). record { slots = set k.slots i t; memory = l }) em)
        ask-taken
        (length-opened m (nodes_before k.slots i) (nodes_of t) (omega (arith, s.long, ends-before k.slots i 8 low)) ∙ s.long)
        (omega (arith, hc)) (omega (arith, hc, ask-gain, ask-released))
        (ask-shown (slot_at (set k.slots i t) i) (discounts_at (set k.slots i t) m' i) (slot_same k.slots i t (omega (arith, s.size)))
        (own-asked k.slots m s i low t empty space ∙ ap zeros nt))
        (other-asked k.slots m s i low t empty space)

  module _ (e : ask_number k.slots name n b ≡ 0 → ⊥) where
    ask-refused : after k (asking name n b) ≡ k
    unfolding after ask_slots ask_memory
    ask-refused = rw (ne_eqb (ask_number k.slots name n b) 0 e)

    ask-none : history.asked k (asking name n b) ≡ 0
    unfolding history.asked
    ask-none = rw (ne_eqb (ask_number k.slots name n b) 0 e)

  pub follows-asking : Follows k (asking name n b)
  follows-asking =
      by_equal (ask_number k.slots name n b) 0
      (λ (e : ask_number k.slots name n b ≡ 0). ask-follows e)
      (λ (e : ask_number k.slots name n b ≡ 0 → ⊥).
      unchanged k (asking name n b) s (asking-number k s name n b) (λ z. e (sym ask-number ∙ asking-number k s name n b ∙ z)) (ask-refused e)
      ask-released (ask-none e))

-- ---- releasing
module _ (k : Kept) (s : Sound k.slots k.memory) (name : ℕ) where
  release-is : number_of k (releasing name) ≡ name_cause k.slots name
  unfolding number_of
  release-is = refl

  release-asked : history.asked k (releasing name) ≡ 0
  unfolding history.asked
  release-asked = refl

  release-taken : desk_taken (seen k) (releasing name) ≡ put (seen k) (name - 1) absent
  unfolding desk_taken
  release-taken = refl

  empty-shown : (t : Slot) (d : List ℕ) → t ≡ empty_slot → seen_slot t d ≡ absent
  empty-shown t d e = rw e

  module _ (e : name_cause k.slots name ≡ 0) where
    released-after : after k (releasing name)
        ≡ record {
          slots = set k.slots (name - 1) empty_slot;
          memory = closed k.memory (nodes_before k.slots (name - 1)) (nodes_of (slot_at k.slots (name - 1)));
        }
    unfolding after release_slots release_memory
    released-after = rw e

    release-loss : history.released k (releasing name) ≡ nodes_of (slot_at k.slots (name - 1))
    unfolding history.released
    release-loss = rw e

    release-follows : Follows k (releasing name)
    unfolding seen
    release-follows =
        let a = (there k.slots name e).0 in
        let i = name - 1 in
        let low : i < 8 = omega (arith, a.low, a.high) in
        let m = k.memory in
        let m' = closed m (nodes_before k.slots i) (nodes_of (slot_at k.slots i)) in
        let none : nodes_of empty_slot ≡ 0 = nodes-none empty_slot refl in
        let hc = held-changed k.slots m s i low empty_slot in
        set-slot k (releasing name) i empty_slot m' absent s low (releasing-number k s name) (sym (releasing-number k s name) ∙ release-is ∙ e)
        released-after release-taken
        (length-closed m (nodes_before k.slots i) (nodes_of (slot_at k.slots i)) (omega (arith, s.long, s.fits, ends-before k.slots i 8 low)) ∙ s.long)
        (omega (arith, hc, none, s.fits)) (omega (arith, hc, none, release-asked, release-loss))
        (empty-shown (slot_at (set k.slots i empty_slot) i) (discounts_at (set k.slots i empty_slot) m' i)
        (slot_same k.slots i empty_slot (omega (arith, s.size))))
        (other-released k.slots m s i low empty_slot none)

  module _ (e : name_cause k.slots name ≡ 0 → ⊥) where
    release-refused : after k (releasing name) ≡ k
    unfolding after release_slots release_memory
    release-refused = rw (ne_eqb (name_cause k.slots name) 0 e)

    release-none : history.released k (releasing name) ≡ 0
    unfolding history.released
    release-none = rw (ne_eqb (name_cause k.slots name) 0 e)

  pub follows-releasing : Follows k (releasing name)
  follows-releasing =
      by_equal (name_cause k.slots name) 0
      (λ (e : name_cause k.slots name ≡ 0). release-follows e)
      (λ (e : name_cause k.slots name ≡ 0 → ⊥).
      unchanged k (releasing name) s (releasing-number k s name) (λ z. e (sym release-is ∙ releasing-number k s name ∙ z)) (release-refused e)
      (release-none e) release-asked)

-- ---- committing
-- a tree that awaits its commit, as the desk sees it
seen-awaiting : (k : Kept) (i : ℕ) → (slot_at k.slots i).status ≡ 1 →
    seen k i
    ≡ present (record {
      fitted = false;
      steps = (slot_at k.slots i).steps;
      reversion = (slot_at k.slots i).reversion;
      discounts = discounts_at k.slots k.memory i;
      bound = (slot_at k.slots i).bound;
      greatest = (slot_at k.slots i).greatest;
    })
unfolding seen
seen-awaiting k i e = rw e

module _ (k : Kept) (s : Sound k.slots k.memory) (name : ℕ) (q : Quoted) where
  -- the entry's definitions at these arguments
  abbrev number : ℕ
  number = commit_number k.slots name q.frequency q.volatility q.rows q.kinds q.figures

  abbrev row : List ℕ
  row = commit_part k.slots name q.frequency q.volatility q.rows q.kinds q.figures k.memory

  abbrev steps : ℕ
  steps = (slot_of k.slots name).steps

  abbrev reversion : ℕ
  reversion = (slot_of k.slots name).reversion

  commit-is : number_of k (committing name q) ≡ number
  unfolding number_of
  commit-is = refl

  commit-asked : history.asked k (committing name q) ≡ 0
  unfolding history.asked
  commit-asked = refl

  commit-released : history.released k (committing name q) ≡ 0
  unfolding history.released
  commit-released = refl

  commit-taken : desk_taken (seen k) (committing name q)
      ≡ put (seen k) (name - 1) (present (fitted_tree q (steps_seen (seen k (name - 1))) (reversion_seen (seen k (name - 1)))))
  unfolding desk_taken
  commit-taken = refl

  commit-shown : (t : Slot) (d : List ℕ) → fit_number_of q steps reversion ≡ 0 → t ≡ fitted_slot steps reversion d → d ≡ fit_discounts_of q steps reversion →
      seen_slot t d ≡ present (fitted_tree q steps reversion)
  commit-shown t d z p r =
      let e = fit-lent q steps reversion z in
      rw (p, r, bounds-bound steps reversion (fit_discounts_of q steps reversion) e, bounds-greatest steps reversion (fit_discounts_of q steps reversion) e)

  -- a name that awaits no commit
  module _ (z : status_of k.slots name ≡ 1 → ⊥) where
    number-15 : number ≡ 15
    unfolding commit_number
    number-15 = rw (ne_eqb (status_of k.slots name) 1 z)

    desk-15 : desk_number (seen k) (committing name q) ≡ 15
    unfolding desk_number
    desk-15 = rw (ne_eqb (desk_status (seen k) name) 1 (λ e. z (status-is k s name ∙ e)))

    none_after : after k (committing name q) ≡ k
    unfolding after commit_slots commit_memory
    none_after = rw (number-15, ne_eqb (status_of k.slots name) 1 z)

  module _ (h : status_of k.slots name ≡ 1) where
    name-known : Known k.slots name
    name-known = known k.slots name (omega arith)

    low : name - 1 < 8
    low = omega (arith, name-known.low, name-known.high)

    waits : (slot_of k.slots name).status ≡ 1
    waits = sym name-known.status ∙ h

    tree : Sane (slot_of k.slots name)
    tree = tree-sane k.slots name name-known (omega (arith, waits))

    named : name_cause k.slots name ≡ 0
    named = cause-awaiting k.slots name h

    number_is : number ≡ desk_number (seen k) (committing name q)
    unfolding commit_number desk_number
    number_is = rw (steps-is k s name named, reversion-is k s name named, tree.nodes, status-is k s name)

    number-fit : number ≡ fit_number_of q steps reversion
    unfolding commit_number
    number-fit = rw (tree.nodes, eq-eqb (status_of k.slots name) 1 h)

    inside : nodes_before k.slots (name - 1) + nodes_of (slot_of k.slots name) ≤ length k.memory
    inside = omega (arith, s.long, place-fits k.slots name name-known)

    part_count : length (discounts_of k.slots k.memory name) ≡ length (fit_discounts_of q steps reversion)
    part_count =
        part_length k.memory (nodes_before k.slots (name - 1)) (nodes_of (slot_of k.slots name)) inside
        ∙ tree.nodes
        ∙ sym (fit-discounts-length q.frequency steps reversion (spacing q.frequency q.volatility) q.kinds q.figures)

    row_count : length row ≡ nodes_of (slot_of k.slots name)
    unfolding commit_part
    row_count =
        part-size number (fit_discounts_of q steps reversion) (discounts_of k.slots k.memory name) part_count
        ∙ fit-discounts-length q.frequency steps reversion (spacing q.frequency q.volatility) q.kinds q.figures
        ∙ sym tree.nodes

    row-fitted : number ≡ 0 → row ≡ fit_discounts_of q steps reversion
    unfolding commit_part
    row-fitted e = part-fitted number (fit_discounts_of q steps reversion) (discounts_of k.slots k.memory name) part_count e

    -- a refused fit leaves the part as it was: its discounts are all 0
    module _ (good : GoodDesk (seen k)) (z : number ≡ 0 → ⊥) where
      all-zero : discounts_of k.slots k.memory name ≡ zeros (discounts_needed steps reversion)
      all-zero = (good (name - 1) _ (seen-awaiting k (name - 1) waits)).unfitted refl

      row-left : row ≡ discounts_of k.slots k.memory name
      unfolding commit_part
      row-left =
          by_equal number 9
          (λ (e : number ≡ 9).
          part-zeroed number (fit_discounts_of q steps reversion) (discounts_of k.slots k.memory name) part_count e
          ∙ ap zeros (fit-discounts-length q.frequency steps reversion (spacing q.frequency q.volatility) q.kinds q.figures)
          ∙ sym all-zero)
          (λ (e : number ≡ 9 → ⊥).
          part_left number (fit_discounts_of q steps reversion) (discounts_of k.slots k.memory name) part_count z e)

      left_after : after k (committing name q) ≡ k
      unfolding after commit_slots commit_memory
      left_after =
          rw (
            ne_eqb number 0 z,
            eq-eqb (status_of k.slots name) 1 h,
            row-left,
            place-self k.memory (nodes_before k.slots (name - 1)) (nodes_of (slot_of k.slots name)) inside,
          )

    module _ (e : number ≡ 0) where
      committed-after : after k (committing name q)
          ≡ record {
            slots = set k.slots (name - 1) (fitted_slot steps reversion row);
            memory = place k.memory (nodes_before k.slots (name - 1)) row;
          }
      unfolding after commit_slots commit_memory
      committed-after = rw (e, eq-eqb (status_of k.slots name) 1 h)

      commit-follows : Follows k (committing name q)
      unfolding seen
      commit-follows =
          let i = name - 1 in
          let t = fitted_slot steps reversion row in
          let m = k.memory in
          let m' = place m (nodes_before k.slots i) row in
          let nt : nodes_of t ≡ discounts_needed steps reversion = nodes-tree (fitted_slot steps reversion row) (λ y. omega arith) (omega arith) tree.shape in
          let same : nodes_of t ≡ nodes_of (slot_at k.slots i) = nt ∙ sym tree.nodes in
          let hc = held-changed k.slots m s i low t in
          let own = own-written k.slots m s i low t row same row_count in
          let ex : desk_taken (seen k) (committing name q) ≡ put (seen k) i (present (fitted_tree q steps reversion)) =
          commit-taken
          ∙ ap (λ (c : ℕ). put (seen k) i (present (fitted_tree q c (reversion_seen (seen k i))))) (steps-is k s name named)
          ∙ ap (λ (c : ℕ). put (seen k) i (present (fitted_tree q steps c))) (reversion-is k s name named) in
          set-slot k (committing name q) i t m' (present (fitted_tree q steps reversion)) s low (commit-is ∙ number_is) (sym number_is ∙ e)
          committed-after ex
          (length-written m (nodes_before k.slots i) row (omega (arith, row_count, inside)) ∙ s.long)
          (omega (arith, hc, same, s.fits)) (omega (arith, hc, same, commit-asked, commit-released))
          (commit-shown (slot_at (set k.slots i t) i) (discounts_at (set k.slots i t) m' i) (sym number-fit ∙ e)
          (slot_same k.slots i t (omega (arith, s.size, low)) ∙ ap (fitted_slot steps reversion) (sym own)) (own ∙ row-fitted e))
          (other-written k.slots m s i low t row same row_count)

  pub committing-number : number_of k (committing name q) ≡ desk_number (seen k) (committing name q)
  committing-number =
      by_equal (status_of k.slots name) 1
      (λ (h : status_of k.slots name ≡ 1). commit-is ∙ number_is h)
      (λ (h : status_of k.slots name ≡ 1 → ⊥). commit-is ∙ number-15 h ∙ sym (desk-15 h))

  pub follows-committing : GoodDesk (seen k) → Follows k (committing name q)
  follows-committing good =
      by_equal (status_of k.slots name) 1
      (λ (h : status_of k.slots name ≡ 1). by_equal number 0
      (λ (e : number ≡ 0). commit-follows h e)
      (λ (e : number ≡ 0 → ⊥).
      unchanged k (committing name q) s committing-number (λ z. e (sym commit-is ∙ committing-number ∙ z)) (left_after h good e)
      commit-released commit-asked))
      (λ (h : status_of k.slots name ≡ 1 → ⊥).
      unchanged k (committing name q) s committing-number (λ z. omega (arith, desk-15 h)) (none_after h) commit-released commit-asked)

-- ---- pricing and locating
module _ (k : Kept) (s : Sound k.slots k.memory) (name : ℕ) where
  pub follows-pricing : (p : Pricing) → Follows k (pricing name p)
  unfolding after desk_taken history.released history.asked
  follows-pricing p = nothing-set k (pricing name p) s (pricing-number k s name p) refl refl refl refl

  pub follows-locating : Follows k (locating name)
  unfolding number_of desk_number after desk_taken history.released history.asked
  follows-locating = nothing-set k (locating name) s refl refl refl refl refl
