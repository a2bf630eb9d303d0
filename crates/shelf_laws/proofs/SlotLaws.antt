-- The nodes of a slot and of the slots before it.
-- Assumes nothing.
use mathlib.Core.Path.{◌≡◌, refl, sym, ◌∙◌}
use Prim.Native.Nat.{ℕ, zero, suc, ◌+◌, ◌-◌, ◌*◌, ◌≤◌, ◌<◌}
use mathlib.Core.Bool.{cond}
use mathlib.Core.List.{List}
use native.Mathlib.Omega.{arith}
use native.Mathlib.Numerals.{add-one}
use native.Mathlib.Nat.{add-zero, add-suc}
use borrow.Author.Tests.{lt-ltb, le-ltb, eq-eqb, ne_eqb}
use lib.Dec.{eqb}
use lib.ListN.{length, replicate}
use Rattle.arithmetic.specs.declared.Answer.{Answer}
use Rattle.arithmetic.proofs.Numbers.{by_order, by_equal}
use Rattle.limits.specs.Limits.{most_steps, shape_cause, most_state_prices}
use Rattle.limits.proofs.LimitLaws.{shape-accepted}
use Rattle.lattice.specs.Shape.{discounts_needed}
use Rattle.lattice.specs.Entries.{about_tree}
use Rattle.lattice.proofs.Sizes.{start-within}
use Rattle.lattice.proofs.EntryLaws.{tree-number, tree-result}
use Rattle.price_bound.specs.declared.TreeErrorBounds.{TreeErrorBounds}
use Rattle.price_bound.specs.PriceBound.{tree_bounds_answer}
use Rattle.shelf_laws.specs.declared.Slot.{Slot}
use Rattle.shelf_laws.specs.Shelf.{room, empty_slots, nodes_held, empty_slot, awaiting_slot, fitted_slot, slot_at, nodes_of, nodes_before}

-- the nodes of a tree
pub needed-most : (n b : ℕ) → shape_cause n b ≡ 0 → discounts_needed n b ≤ most_state_prices
unfolding discounts_needed
needed-most n b e = start-within b n (omega (arith, (shape-accepted n b e).1))

-- ---- slots as the code makes them
module _ (rows : List ℕ) (e : rows ≡ replicate most_steps 0) where
  pub empty-is : ◌≡◌ {A = Slot} (record { status = 0; steps = 0; reversion = 0; bound = 0; greatest = rows }) empty_slot
  empty-is = rw e

  pub awaiting-is : (n b : ℕ) → ◌≡◌ {A = Slot} (record { status = 1; steps = n; reversion = b; bound = 0; greatest = rows }) (awaiting_slot n b)
  awaiting-is n b = rw e

pub fitted-is : (n b : ℕ) (discounts : List ℕ) (found : TreeErrorBounds) → found ≡ tree_bounds_answer n b discounts →
    ◌≡◌ {A = Slot} (record { status = 2; steps = n; reversion = b; bound = found.bound; greatest = found.greatest }) (fitted_slot n b discounts)
fitted-is n b discounts found e = rw e

-- what the lattice answers
module _ (n b : ℕ) (a : Answer) (e : a ≡ about_tree n b (discounts_needed n b)) where
  pub answer-cause : a.number ≡ shape_cause n b
  answer-cause = tree-number n b (discounts_needed n b) a e

  module _ (z : a.number ≡ 0) where
    pub answer-shape : shape_cause n b ≡ 0
    answer-shape = sym answer-cause ∙ z

    pub answer-value : a.value ≡ discounts_needed n b
    answer-value = tree-result n b (discounts_needed n b) a e answer-shape

module _ (t : Slot) where
  pub nodes-none : t.status ≡ 0 → nodes_of t ≡ 0
  unfolding nodes_of
  nodes-none h = rw (eq-eqb t.status 0 h)

  pub nodes-status : 2 < t.status → nodes_of t ≡ suc room
  unfolding nodes_of
  nodes-status h = rw (ne_eqb t.status 0 (λ e. omega arith), lt-ltb 2 t.status h)

  module _ (some : t.status ≡ 0 → ⊥) (few : t.status ≤ 2) where
    pub nodes-shape : (shape_cause t.steps t.reversion ≡ 0 → ⊥) → nodes_of t ≡ suc room
    unfolding nodes_of
    nodes-shape h = rw (ne_eqb t.status 0 some, le-ltb 2 t.status few, ne_eqb (shape_cause t.steps t.reversion) 0 h)

    pub nodes-tree : shape_cause t.steps t.reversion ≡ 0 → nodes_of t ≡ discounts_needed t.steps t.reversion
    unfolding nodes_of
    nodes-tree h = rw (ne_eqb t.status 0 some, le-ltb 2 t.status few, eq-eqb (shape_cause t.steps t.reversion) 0 h)

    -- by the lattice's answer
    module _ (a : Answer) (e : a ≡ about_tree t.steps t.reversion (discounts_needed t.steps t.reversion)) where
      pub nodes-refused : (a.number ≡ 0 → ⊥) → suc room ≡ nodes_of t
      nodes-refused h = sym (nodes-shape (λ z. h (answer-cause t.steps t.reversion a e ∙ z)))

      pub nodes-answered : a.number ≡ 0 → a.value ≡ nodes_of t
      nodes-answered z =
          answer-value t.steps t.reversion a e z ∙ sym (nodes-tree (answer-shape t.steps t.reversion a e z))

  -- a slot with a tree
  pub record Sane : Type 0 where
    pub status-low : 0 < t.status
    pub status-high : t.status ≤ 2
    pub shape : shape_cause t.steps t.reversion ≡ 0
    pub nodes : nodes_of t ≡ discounts_needed t.steps t.reversion

  -- a slot has no tree, or counts as too large, or has a sane tree
  pub by-slot : {X : Type 0} → (t.status ≡ 0 → X) → (nodes_of t ≡ suc room → X) → (Sane → X) → X
  by-slot none broken tree =
      by_equal t.status 0 none
      (λ (z : t.status ≡ 0 → ⊥). by_order t.status 2
      (λ (s : t.status ≤ 2). by_equal (shape_cause t.steps t.reversion) 0
      (λ (p : shape_cause t.steps t.reversion ≡ 0).
      let low : 0 < t.status = omega arith in
      tree (record { status-low = low; status-high = s; shape = p; nodes = nodes-tree z s p }))
      (λ (p : shape_cause t.steps t.reversion ≡ 0 → ⊥). broken (nodes-shape z s p)))
      (λ (s : 2 < t.status). broken (nodes-status s)))

  -- a slot that is not too large for the memory and not without a tree has a sane one
  pub sane : nodes_of t ≤ room → (t.status ≡ 0 → ⊥) → Sane
  sane h z =
      by-slot (λ (e : t.status ≡ 0). absurd (z e))
      (λ (e : nodes_of t ≡ suc room). let none : ⊥ = omega arith in absurd none)
      (λ (s : Sane). s)

  -- whatever the slot holds
  pub nodes-most : nodes_of t ≤ most_state_prices
  nodes-most =
      by-slot
      (λ (e : t.status ≡ 0). omega (arith, nodes-none e))
      (λ (e : nodes_of t ≡ suc room). omega arith)
      (λ (s : Sane). omega (arith, s.nodes, needed-most t.steps t.reversion s.shape))

pub before_more : (slots : List Slot) (i n c : ℕ) (t : Slot) → n ≡ nodes_before slots i → t ≡ slot_at slots i → c ≡ nodes_of t →
    n + c ≡ nodes_before slots (i + 1)
unfolding nodes_before
before_more slots i n c t e f g = rw (add-one, e, g, f)

pub before-most : (slots : List Slot) (i : ℕ) → nodes_before slots i ≤ most_state_prices * i
unfolding nodes_before
before-most slots zero = omega arith
before-most slots (suc i) = omega (arith, before-most slots i, nodes-most (slot_at slots i))

before-le : (slots : List Slot) (i d : ℕ) → nodes_before slots i ≤ nodes_before slots (i + d)
unfolding nodes_before
before-le slots i zero = rw add-zero (omega arith)
before-le slots i (suc d) = rw add-suc (omega (arith, before-le slots i d))

-- the nodes of a slot end before those of any later slot start
pub ends-before : (slots : List Slot) (i j : ℕ) → i < j → nodes_before slots i + nodes_of (slot_at slots i) ≤ nodes_before slots j
ends-before slots i j h =
    let e : i + 1 + (j - (i + 1)) ≡ j = omega arith in
    let l : nodes_before slots (i + 1) ≤ nodes_before slots j = rw e at (before-le slots (i + 1) (j - (i + 1))) in
    omega (arith, before_more slots i (nodes_before slots i) (nodes_of (slot_at slots i)) (slot_at slots i) refl refl refl)

-- what a number chooses
pub given : {A : Type 0} (number : ℕ) (x y : A) → number ≡ 0 → x ≡ cond (eqb number 0) x y
given number x y h = rw (eq-eqb number 0 h)

pub left : {A : Type 0} (number : ℕ) (x y : A) → (number ≡ 0 → ⊥) → y ≡ cond (eqb number 0) x y
left number x y h = rw (ne_eqb number 0 h)

-- ---- the empty shelf: eight names, no node held

pub empty-names : length empty_slots ≡ 8
unfolding empty_slots
empty-names = refl

pub empty-held : nodes_held empty_slots ≡ 0
unfolding empty_slots nodes_before nodes_of slot_at
empty-held = refl
