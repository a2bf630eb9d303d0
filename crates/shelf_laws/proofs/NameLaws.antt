-- Names: their status, what a number says of them, and the tree that is found.
-- Assumes nothing.
use mathlib.Core.Path.{◌≡◌, refl, sym, ap, ◌∙◌}
use Prim.Native.Nat.{ℕ, ◌+◌, ◌-◌, ◌≤◌, ◌<◌}
use mathlib.Core.List.{List}
use native.Mathlib.Omega.{arith}
use borrow.Author.Tests.{lt-ltb, le-ltb, eq-eqb, ne_eqb}
use Rattle.arithmetic.proofs.Numbers.{by_order, by_equal}
use Rattle.arithmetic.specs.declared.Answer.{Answer}
use Rattle.limits.specs.Limits.{shape_cause}
use Rattle.lattice.specs.Shape.{discounts_needed}
use Rattle.lattice.specs.Entries.{about_tree}
use Rattle.shelf_laws.specs.declared.Slot.{Slot}
use Rattle.shelf_laws.specs.declared.Located.{Located}
use Rattle.shelf_laws.specs.Shelf.{room, nodes_of, nodes_held, status_of, slot_of, start_of, name_cause, located_tree, ask_number}
use Rattle.shelf_laws.proofs.SlotLaws.{answer-cause, answer-shape, answer-value, needed-most, Sane, sane, before-most, ends-before}

module _ (slots : List Slot) (name : ℕ) where
  pub status-zero : name ≡ 0 → status_of slots name ≡ 3
  unfolding status_of
  status-zero h = rw (eq-eqb name 0 h)

  pub status-high : 8 < name → status_of slots name ≡ 3
  unfolding status_of
  status-high h = rw (ne_eqb name 0 (λ e. omega arith), lt-ltb 8 name h)

  module _ (some : name ≡ 0 → ⊥) (few : name ≤ 8) where
    pub status-broken : room < nodes_held slots → status_of slots name ≡ 3
    unfolding status_of
    status-broken b = rw (ne_eqb name 0 some, le-ltb 8 name few, lt-ltb room (nodes_held slots) b)

    pub status-good : nodes_held slots ≤ room → status_of slots name ≡ (slot_of slots name).status
    unfolding status_of
    status-good b = rw (ne_eqb name 0 some, le-ltb 8 name few, le-ltb room (nodes_held slots) b)

  -- what a status below 3 tells
  pub record Known : Type 0 where
    pub low : 0 < name
    pub high : name ≤ 8
    pub fits : nodes_held slots ≤ room
    pub status : status_of slots name ≡ (slot_of slots name).status

  pub known : status_of slots name < 3 → Known
  known h =
      by_equal name 0
      (λ (z : name ≡ 0). let none : ⊥ = omega (arith, status-zero z) in absurd none)
      (λ (z : name ≡ 0 → ⊥). by_order name 8
      (λ (s : name ≤ 8). by_order (nodes_held slots) room
      (λ (f : nodes_held slots ≤ room). let low : 0 < name = omega arith in record { low = low; high = s; fits = f; status = status-good z s f })
      (λ (f : room < nodes_held slots). let none : ⊥ = omega (arith, status-broken z s f) in absurd none))
      (λ (s : 8 < name). let none : ⊥ = omega (arith, status-high s) in absurd none))

  pub cause-none : (status_of slots name ≡ 1 → ⊥) → (status_of slots name ≡ 2 → ⊥) → name_cause slots name ≡ 15
  unfolding name_cause
  cause-none h i = rw (ne_eqb (status_of slots name) 1 h, ne_eqb (status_of slots name) 2 i)

  pub cause-awaiting : status_of slots name ≡ 1 → name_cause slots name ≡ 0
  unfolding name_cause
  cause-awaiting h = rw (eq-eqb (status_of slots name) 1 h)

  pub cause-fitted : status_of slots name ≡ 2 → name_cause slots name ≡ 0
  unfolding name_cause
  cause-fitted h = rw h

  -- what no cause tells
  pub there : name_cause slots name ≡ 0 → Known × (0 < (slot_of slots name).status)
  there e =
      by_equal (status_of slots name) 1
      (λ (h : status_of slots name ≡ 1). let k = known (omega arith) in (k, omega (arith, k.status)))
      (λ (h : status_of slots name ≡ 1 → ⊥). by_equal (status_of slots name) 2
      (λ (i : status_of slots name ≡ 2). let k = known (omega arith) in (k, omega (arith, k.status)))
      (λ (i : status_of slots name ≡ 2 → ⊥). let none : ⊥ = omega (arith, cause-none h i) in absurd none))

  -- by a status from 1 to 2, and by any other
  module _ (status : ℕ) (e : status ≡ status_of slots name) where
    pub cause-there : 0 < status → status ≤ 2 → name_cause slots name ≡ 0
    cause-there low high =
        by_equal status 1
        (λ (h : status ≡ 1). cause-awaiting (sym e ∙ h))
        (λ (h : status ≡ 1 → ⊥). let two : status ≡ 2 = omega arith in cause-fitted (sym e ∙ two))

    pub cause-outside : (status ≡ 1 → ⊥) → (status ≡ 2 → ⊥) → name_cause slots name ≡ 0 → ⊥
    cause-outside h i z = let n = cause-none (λ y. h (e ∙ y)) (λ y. i (e ∙ y)) in omega (arith, n)

  -- there is no other cause
  pub cause-only : (name_cause slots name ≡ 0 → ⊥) → name_cause slots name ≡ 15
  cause-only z = cause-none (λ h. z (cause-awaiting h)) (λ h. z (cause-fitted h))

  pub place-fits : Known → start_of slots name + nodes_of (slot_of slots name) ≤ room
  place-fits k = omega (arith, k.fits, ends-before slots (name - 1) 8 (omega (arith, k.low, k.high)))

  pub tree-sane : Known → 0 < (slot_of slots name).status → Sane (slot_of slots name)
  tree-sane k h = sane (slot_of slots name) (omega (arith, place-fits k)) (λ e. omega arith)

  -- ---- the tree that is found
  pub located-none : (name_cause slots name ≡ 0 → ⊥) →
      ◌≡◌ {A = Located} (record { status = 0; start = 0; count = 0; steps = 0; reversion = 0; bound = 0 }) (located_tree slots name)
  unfolding located_tree
  located-none z = rw (ne_eqb (name_cause slots name) 0 z)

  pub located-is : name_cause slots name ≡ 0 → (t : Slot) (at count : ℕ) → t ≡ slot_of slots name → at ≡ start_of slots name → count ≡ nodes_of t →
      ◌≡◌ {A = Located} (record { status = t.status; start = at; count = count; steps = t.steps; reversion = t.reversion; bound = t.bound })
      (located_tree slots name)
  unfolding located_tree
  located-is e t at count et ea ec = rw (eq-eqb (name_cause slots name) 0 e, ec, ea, et)

  module _ (l : Located) (e : l ≡ located_tree slots name) where
    -- a name with a tree
    pub record There : Type 0 where
      pub name-known : Known
      pub cause : name_cause slots name ≡ 0
      pub status-is : l.status ≡ (slot_of slots name).status
      pub start_is : l.start ≡ start_of slots name
      pub count-is : l.count ≡ nodes_of (slot_of slots name)
      pub steps-is : l.steps ≡ (slot_of slots name).steps
      pub reversion-is : l.reversion ≡ (slot_of slots name).reversion
      pub bound-is : l.bound ≡ (slot_of slots name).bound
      pub fits : l.start + l.count ≤ room
      pub tree : Sane (slot_of slots name)

    found : name_cause slots name ≡ 0 → There
    found z =
        let t = slot_of slots name in
        let k = there z in
        let is : l ≡ record {
          status = t.status;
          start = start_of slots name;
          count = nodes_of t;
          steps = t.steps;
          reversion = t.reversion;
          bound = t.bound;
        } =
        e ∙ sym (located-is z t (start_of slots name) (nodes_of t) refl refl refl) in
        let start_is : l.start ≡ start_of slots name = ap (λ (x : Located). x.start) is in
        let count-is : l.count ≡ nodes_of t = ap (λ (x : Located). x.count) is in
        record {
          name-known = k.0;
          cause = z;
          status-is = ap (λ (x : Located). x.status) is;
          start_is = start_is;
          count-is = count-is;
          steps-is = ap (λ (x : Located). x.steps) is;
          reversion-is = ap (λ (x : Located). x.reversion) is;
          bound-is = ap (λ (x : Located). x.bound) is;
          fits = omega (arith, start_is, count-is, place-fits k.0);
          tree = tree-sane k.0 k.1;
        }

    pub none_found : l.status ≡ 0 → name_cause slots name ≡ 15
    none_found z =
        by_equal (name_cause slots name) 0
        (λ (c : name_cause slots name ≡ 0). let none : ⊥ = omega (arith, (found c).status-is, (found c).tree.status-low) in absurd none)
        (λ (c : name_cause slots name ≡ 0 → ⊥). cause-only c)

    pub tree-found : (l.status ≡ 0 → ⊥) → There
    tree-found z =
        by_equal (name_cause slots name) 0
        (λ (c : name_cause slots name ≡ 0). found c)
        (λ (c : name_cause slots name ≡ 0 → ⊥). absurd (z (ap (λ (x : Located). x.status) (e ∙ sym (located-none c)))))

  -- ---- the number of an asking
  module _ (n b : ℕ) where
    pub ask-name : (status_of slots name ≡ 0 → ⊥) → ask_number slots name n b ≡ 15
    unfolding ask_number
    ask-name h = rw (ne_eqb (status_of slots name) 0 h)

    module _ (free : status_of slots name ≡ 0) where
      pub ask-shape : (shape_cause n b ≡ 0 → ⊥) → ask_number slots name n b ≡ shape_cause n b
      unfolding ask_number
      ask-shape h = rw (eq-eqb (status_of slots name) 0 free, ne_eqb (shape_cause n b) 0 h)

      module _ (shape : shape_cause n b ≡ 0) where
        pub ask-full : room < discounts_needed n b + nodes_held slots → ask_number slots name n b ≡ 14
        unfolding ask_number
        ask-full h = rw (eq-eqb (status_of slots name) 0 free, eq-eqb (shape_cause n b) 0 shape, lt-ltb room (discounts_needed n b + nodes_held slots) h)

        pub ask-taken : discounts_needed n b + nodes_held slots ≤ room → ask_number slots name n b ≡ 0
        unfolding ask_number
        ask-taken h = rw (eq-eqb (status_of slots name) 0 free, eq-eqb (shape_cause n b) 0 shape, le-ltb room (discounts_needed n b + nodes_held slots) h)

    -- by the lattice's answer
    module _ (free : status_of slots name ≡ 0) (a : Answer) (e : a ≡ about_tree n b (discounts_needed n b)) where
      pub ask-refused : (a.number ≡ 0 → ⊥) → a.number ≡ ask_number slots name n b
      ask-refused h = answer-cause n b a e ∙ sym (ask-shape free (λ z. h (answer-cause n b a e ∙ z)))

      module _ (z : a.number ≡ 0) (all : ℕ) (eh : all ≡ nodes_held slots) where
        pub ask-14 : room < a.value + all → 14 ≡ ask_number slots name n b
        ask-14 h = sym (ask-full free (answer-shape n b a e z) (omega (arith, answer-value n b a e z)))

        pub ask-0 : a.value + all ≤ room → 0 ≡ ask_number slots name n b
        ask-0 h = sym (ask-taken free (answer-shape n b a e z) (omega (arith, answer-value n b a e z)))

        pub ask-fits : a.value + all ≤ 33489
        ask-fits = omega (arith, answer-value n b a e z, needed-most n b (answer-shape n b a e z), before-most slots 8)

    -- what an accepted asking tells
    pub record Asked : Type 0 where
      pub name-known : Known
      pub absent : (slot_of slots name).status ≡ 0
      pub shape : shape_cause n b ≡ 0
      pub space : discounts_needed n b + nodes_held slots ≤ room

    pub asked : ask_number slots name n b ≡ 0 → Asked
    asked e =
        by_equal (status_of slots name) 0
        (λ (h : status_of slots name ≡ 0). by_equal (shape_cause n b) 0
        (λ (z : shape_cause n b ≡ 0). by_order (discounts_needed n b + nodes_held slots) room
        (λ (f : discounts_needed n b + nodes_held slots ≤ room).
        let k = known (omega arith) in
        let gone : (slot_of slots name).status ≡ 0 = omega (arith, k.status) in
        record { name-known = k; absent = gone; shape = z; space = f })
        (λ (f : room < discounts_needed n b + nodes_held slots). let none : ⊥ = omega (arith, ask-full h z f) in absurd none))
        (λ (z : shape_cause n b ≡ 0 → ⊥). absurd (z (sym (ask-shape h z) ∙ e))))
        (λ (h : status_of slots name ≡ 0 → ⊥). let none : ⊥ = omega (arith, ask-name h) in absurd none)
