-- Every shelf reached from the empty one by any calls with any arguments.
-- Assumes nothing.
use mathlib.Core.Path.{◌≡◌, refl, sym, ap, ◌∙◌, subst, fun_ext}
use mathlib.Core.Logic.{◌⊎◌, inl, inr, ⊎_elim}
use Prim.Native.Nat.{ℕ, zero, suc, ◌+◌, ◌-◌, ◌≤◌, ◌<◌}
use mathlib.Core.Bool.{true}
use mathlib.Core.List.{List, [], ◌∷◌}
use native.Mathlib.Omega.{arith}
use lib.ListN.{length, get_or-replicate}
use Rattle.arithmetic.proofs.Numbers.{by_order, by_equal}
use Rattle.shelf_laws.specs.declared.Slot.{Slot}
use Rattle.shelf_laws.specs.Shelf.{room, empty_slot, empty_slots, slot_at, nodes_of, nodes_before, nodes_held, discounts_at}
use Rattle.shelf_laws.proofs.SlotLaws.{nodes-none}
use Rattle.shelf_promises.specs.Model.{ShelvedTree, Seen, absent, present, Quoted, unfitted_tree, fitted_tree, steps_seen, reversion_seen}
use Rattle.shelf_promises.specs.Model.{Call, asking, committing, releasing, pricing, locating, desk_number, put, desk_taken, desk_after, desk_run}
use Rattle.shelf_promises.specs.History.{Kept, seen_slot, seen, number_of, after, run, empty_shelf, Reached, asked_in, released_in}
use Rattle.shelf_promises.specs.ShelfPromises.{CommittedIn}
use Rattle.shelf_promises.proofs.Others.{Sound}
use Rattle.shelf_promises.proofs.DeskLaws.{seen-out, put_same, put_other, taken, refused}
use Rattle.shelf_promises.proofs.Simulation.{GoodDesk, Follows, follows-asking, follows-committing, follows-releasing, follows-pricing, follows-locating}
use Rattle.shelf_promises.proofs.Trees.{same-tree, no-tree, never, committing-told, name-low, good-after}

-- ---- one call
pub record Valid (k : Kept) : Type 0 where
  pub sound : Sound k.slots k.memory
  pub good : GoodDesk (seen k)

pub follows : (k : Kept) → Valid k → (call : Call) → Follows k call
follows k v (asking name n b) = follows-asking k v.sound name n b
follows k v (committing name q) = follows-committing k v.sound name q v.good
follows k v (releasing name) = follows-releasing k v.sound name
follows k v (pricing name p) = follows-pricing k v.sound name p
follows k v (locating name) = follows-locating k v.sound name

desk-after : (k : Kept) → Valid k → (call : Call) → seen (after k call) ≡ desk_after (seen k) call
desk-after k v call = fun_ext (follows k v call).desk

valid-after : (k : Kept) → Valid k → (call : Call) → Valid (after k call)
valid-after k v call =
    record {
      sound = (follows k v call).sound;
      good = subst GoodDesk (sym (desk-after k v call)) (good-after (seen k) call v.good);
    }

-- ---- a history
valid-run : (k : Kept) → Valid k → (calls : List Call) → Valid (run k calls)
unfolding run
valid-run k v [] = v
valid-run k v (call ∷ calls) = valid-run (after k call) (valid-after k v call) calls

desk-run : (k : Kept) → Valid k → (calls : List Call) → seen (run k calls) ≡ desk_run (seen k) calls
unfolding run desk_run
desk-run k v [] = refl
desk-run k v (call ∷ calls) =
    desk-run (after k call) (valid-after k v call) calls ∙ ap (λ (d : ℕ → Seen). desk_run d calls) (desk-after k v call)

held-run : (k : Kept) → Valid k → (calls : List Call) → nodes_held (run k calls).slots + released_in k calls ≡ nodes_held k.slots + asked_in k calls
unfolding run released_in asked_in
held-run k v [] = omega arith
held-run k v (call ∷ calls) = omega (arith, (follows k v call).nodes, held-run (after k call) (valid-after k v call) calls)

-- ---- the empty shelf
none_before : (slots : List Slot) (j : ℕ) → ((i : ℕ) → i < j → nodes_of (slot_at slots i) ≡ 0) → nodes_before slots j ≡ 0
unfolding nodes_before
none_before slots zero h = refl
none_before slots (suc j) h = omega (arith, none_before slots j (λ i l. h i (omega arith)), h j (omega arith))

empty-at : (i : ℕ) → i < 8 → slot_at empty_slots i ≡ empty_slot
unfolding slot_at empty_slots
empty-at i h = get_or-replicate 8 i empty_slot _ h

empty-held : nodes_held empty_slots ≡ 0
empty-held = none_before empty_slots 8 (λ i h. ap nodes_of (empty-at i h) ∙ nodes-none empty_slot refl)

empty-size : length empty_slots ≡ 8
unfolding empty_slots
empty-size = refl

empty-seen : (m : List ℕ) (i : ℕ) → seen (empty_shelf m) i ≡ absent
unfolding seen
empty-seen m i =
    by_order 8 i
    (λ (h : 8 ≤ i). seen-out (empty_shelf m) i empty-size h)
    (λ (h : i < 8). ap (λ (t : Slot). seen_slot t (discounts_at empty_slots m i)) (empty-at i h))

empty-valid : (m : List ℕ) → length m ≡ room → Valid (empty_shelf m)
empty-valid m h =
    record {
      sound = record { size = empty-size; long = h; fits = omega (arith, empty-held) };
      good = λ i t e. absurd (no-tree t (sym (empty-seen m i) ∙ e));
    }

-- ---- every shelf that is reached
pub valid : (k : Kept) → Reached k → Valid k
valid k r = subst Valid (sym r.by) (valid-run (empty_shelf r.memory) (empty-valid r.memory r.long) r.calls)

pub history-is : (m : List ℕ) → length m ≡ room → (calls : List Call) (i : ℕ) → seen (run (empty_shelf m) calls) i ≡ desk_run (λ j. absent) calls i
history-is m h calls i =
    ap (λ (d : ℕ → Seen). d i)
    (desk-run (empty_shelf m) (empty-valid m h) calls ∙ ap (λ (d : ℕ → Seen). desk_run d calls) (fun_ext (empty-seen m)))

pub held-is : (m : List ℕ) → length m ≡ room → (calls : List Call) →
    nodes_held (run (empty_shelf m) calls).slots + released_in (empty_shelf m) calls ≡ asked_in (empty_shelf m) calls
held-is m h calls = omega (arith, empty-held, held-run (empty_shelf m) (empty-valid m h) calls)

-- ---- a fitted tree comes from a commit of its name
-- what is seen under a name after one call: what was seen, no tree, an unfitted one, or that of a commit
pub data Came (k : Kept) (call : Call) (i : ℕ) (t : ShelvedTree) : Type 0 where
  stayed : seen k i ≡ present t → Came k call i t
  fitted-now : (q : Quoted) → call ≡ committing (suc i) q → number_of k call ≡ 0 → t ≡ fitted_tree q t.steps t.reversion → Came k call i t

-- a tree that was put under a name
tree-put : (desk : ℕ → Seen) (i j : ℕ) (x : Seen) (t : ShelvedTree) {X : Type 0} → put desk i x j ≡ present t →
    (j ≡ i → x ≡ present t → X) → (desk j ≡ present t → X) → X
tree-put desk i j x t e new old =
    by_equal j i
    (λ (s : j ≡ i). new s (put_same desk i x j s ∙ e))
    (λ (s : j ≡ i → ⊥). old (put_other desk i x j s ∙ e))

fitted-parts : (q : Quoted) (n b : ℕ) (t : ShelvedTree) → fitted_tree q n b ≡ t → t ≡ fitted_tree q t.steps t.reversion
fitted-parts q n b t e = subst (λ (u : ShelvedTree). u ≡ fitted_tree q u.steps u.reversion) e refl

came-taken : (k : Kept) (call : Call) (i : ℕ) (t : ShelvedTree) → number_of k call ≡ 0 → desk_number (seen k) call ≡ 0 →
    desk_taken (seen k) call i ≡ present t → t.fitted ≡ true → Came k call i t
unfolding desk_taken
came-taken k (asking name n b) i t z d e f =
    tree-put (seen k) (name - 1) i (present (unfitted_tree n b)) t e
    (λ s p. never (ap (λ (u : ShelvedTree). u.fitted) (same-tree (unfitted_tree n b) t p) ∙ f))
    (λ o. stayed o)
came-taken k (committing name q) i t z d e f =
    let n = steps_seen (seen k (name - 1)) in
    let b = reversion_seen (seen k (name - 1)) in
    let told = committing-told (seen k) name q d in
    let low : 0 < name = name-low (seen k) name (omega (arith, told.0)) in
    tree-put (seen k) (name - 1) i (present (fitted_tree q n b)) t e
    (λ s p.
    let same : name ≡ suc i = omega arith in
    fitted-now q (ap (λ (x : ℕ). committing x q) same) z (fitted-parts q n b t (same-tree (fitted_tree q n b) t p)))
    (λ o. stayed o)
came-taken k (releasing name) i t z d e f =
    tree-put (seen k) (name - 1) i absent t e (λ s p. absurd (no-tree t p)) (λ o. stayed o)
came-taken k (pricing name p) i t z d e f = stayed e
came-taken k (locating name) i t z d e f = stayed e

came : (k : Kept) → Valid k → (call : Call) (i : ℕ) (t : ShelvedTree) → seen (after k call) i ≡ present t → t.fitted ≡ true → Came k call i t
came k v call i t e f =
    let w = follows k v call in
    let a = sym (w.desk i) ∙ e in
    by_equal (desk_number (seen k) call) 0
    (λ (z : desk_number (seen k) call ≡ 0).
    came-taken k call i t (w.number ∙ z) z (ap (λ (d : ℕ → Seen). d i) (taken (seen k) call z) ∙ a) f)
    (λ (z : desk_number (seen k) call ≡ 0 → ⊥). stayed (ap (λ (d : ℕ → Seen). d i) (refused (seen k) call z) ∙ a))

later-commit : (k : Kept) (call : Call) (calls : List Call) (i : ℕ) (t : ShelvedTree) → CommittedIn (after k call) calls i t →
    CommittedIn k (call ∷ calls) i t
unfolding run
later-commit k call calls i t c =
    record {
      earlier = call ∷ c.earlier;
      later = c.later;
      quoted = c.quoted;
      split = ap (λ (l : List Call). call ∷ l) c.split;
      accepted = c.accepted;
      tree_is = c.tree_is;
    }

first-commit : (k : Kept) (call : Call) (calls : List Call) (i : ℕ) (t : ShelvedTree) (q : Quoted) → call ≡ committing (suc i) q →
    number_of k call ≡ 0 → t ≡ fitted_tree q t.steps t.reversion → CommittedIn k (call ∷ calls) i t
unfolding run
first-commit k call calls i t q e z r =
    record {
      earlier = [];
      later = calls;
      quoted = q;
      split = ap (λ (c : Call). c ∷ calls) e;
      accepted = subst (λ (c : Call). number_of k c ≡ 0) e z;
      tree_is = r;
    }

by-came : (k : Kept) (call : Call) (calls : List Call) (i : ℕ) (t : ShelvedTree) → Came k call i t →
    (seen k i ≡ present t) ⊎ CommittedIn k (call ∷ calls) i t
by-came k call calls i t (stayed o) = inl o
by-came k call calls i t (fitted-now q e z r) = inr (first-commit k call calls i t q e z r)

committed-run : (k : Kept) → Valid k → (calls : List Call) (i : ℕ) (t : ShelvedTree) → seen (run k calls) i ≡ present t → t.fitted ≡ true →
    (seen k i ≡ present t) ⊎ CommittedIn k calls i t
unfolding run
committed-run k v [] i t e f = inl e
committed-run k v (call ∷ calls) i t e f =
    ⊎_elim
    (λ (o : seen (after k call) i ≡ present t). by-came k call calls i t (came k v call i t o f))
    (λ (c : CommittedIn (after k call) calls i t). inr (later-commit k call calls i t c))
    (committed-run (after k call) (valid-after k v call) calls i t e f)

pub own-commit-is : (m : List ℕ) → length m ≡ room → (calls : List Call) (i : ℕ) (t : ShelvedTree) →
    seen (run (empty_shelf m) calls) i ≡ present t → t.fitted ≡ true → CommittedIn (empty_shelf m) calls i t
own-commit-is m h calls i t e f =
    ⊎_elim
    (λ (o : seen (empty_shelf m) i ≡ present t). absurd (no-tree t (sym (empty-seen m i) ∙ o)))
    (λ (c : CommittedIn (empty_shelf m) calls i t). c)
    (committed-run (empty_shelf m) (empty-valid m h) calls i t e f)
