-- Prices of shelved trees, and where their discounts stand.
-- Assumes nothing.
use mathlib.Core.Path.{subst, ◌≡◌, refl, sym, ap, ◌∙◌}
use Prim.Native.Nat.{ℕ, ◌-◌, ◌*◌, ◌^◌, ◌≤◌, ◌<◌}
use mathlib.Core.Bool.{Bool, true, false, cond}
use mathlib.Core.List.{List}
use native.Mathlib.Omega.{arith}
use borrow.Author.Tests.{eq-eqb, ne_eqb, le-ltb}
use lib.Dec.{eqb, ltb}
use lib.ListN.{length}
use Rattle.arithmetic.proofs.Numbers.{by_equal}
use Rattle.arithmetic.proofs.Implied.{implied}
use Rattle.tree.specs.Tree.{unit}
use Rattle.lattice.specs.Shape.{discounts_needed, state_prices_needed}
use Rattle.lent_tree.specs.LentTree.{discounts_cause}
use Rattle.fitted_laws.specs.Entry.{fit_number}
use Rattle.price_bound.specs.PriceBound.{tree_error_bound}
use Rattle.price_laws.specs.declared.Price.{Price}
use Rattle.price_laws.specs.Exact.{Accurate}
use Rattle.price_laws.specs.Prices.{refused_price, tree_cause, priced, value_alone, with_bound}
use Rattle.promises.proofs.CauseTables.{number-priced}
use Rattle.price_laws.proofs.Accuracy.{bond-given, option-given, dated-given, bond-within-bound, option-within-bound, dated-within-bound}
use Rattle.price_laws.proofs.Accuracy.{bond-bound-a-step, option-bound-a-step, dated-bound-a-step}
use Rattle.price_laws.proofs.ValueLaws.{priced-alike, bond-whole, option-whole, dated-whole}
use Rattle.promises.specs.Promises.{NoneAboveOne}
use Rattle.shelf_laws.specs.Parts.{part}
use Rattle.shelf_laws.specs.Shelf.{name_cause, part_of}
use Rattle.shelf_laws.proofs.EntryLaws.{part-found}
use Rattle.shelf_promises.specs.Model.{ShelvedTree, Seen, absent, present, Quoted, fit_number_of, Pricing, bond, option, dated}
use Rattle.shelf_promises.specs.Model.{flows_of, plain_price, exact_of, status_seen, discounts_seen, committing}
use Rattle.shelf_promises.specs.Model.{desk_status, desk_cause, desk_price, desk_number}
use Rattle.shelf_promises.specs.History.{Kept, seen, price_of, number_of}
use Rattle.shelf_promises.specs.ShelfPromises.{PricedTree}
use Rattle.shelf_promises.proofs.DeskLaws.{cause-is, price-is, discounts-is}
use Rattle.shelf_promises.proofs.FitRoom.{any-room}
use Rattle.shelf_promises.proofs.PriceNumbers.{tree-refuses, zeros-cause, nine, six, never-nine}
use Rattle.shelf_promises.proofs.Histories.{Valid, follows}

-- ---- by what is seen
by-fitted : (t : Bool) {X : Type 0} → (t ≡ true → X) → (t ≡ false → X) → X
by-fitted true f g = f refl
by-fitted false f g = g refl

by-seen : (x : Seen) {X : Type 0} → (x ≡ absent → X) → ((t : ShelvedTree) → x ≡ present t → X) → X
by-seen absent f g = f refl
by-seen (present t) f g = g t refl

module _ (desk : ℕ → Seen) (name : ℕ) where
  -- a name's tree
  module _ (t : ShelvedTree) (low : 1 ≤ name) (high : name ≤ 8) (found : desk (name - 1) ≡ present t) where
    status-found : desk_status desk name ≡ status_seen (present t)
    unfolding desk_status
    status-found = rw (ne_eqb name 0 (λ z. omega arith), le-ltb 8 name high, found)

    awaiting-found : t.fitted ≡ false → desk_status desk name ≡ 1
    awaiting-found e = status-found ∙ rw e

    fitted-found : t.fitted ≡ true → desk_status desk name ≡ 2
    fitted-found e = status-found ∙ rw e

    cause-found : desk_cause desk name ≡ 0
    unfolding desk_cause
    cause-found = by-fitted t.fitted (λ (e : t.fitted ≡ true). rw (fitted-found e)) (λ (e : t.fitted ≡ false). rw (awaiting-found e))

    commit-found : (q : Quoted) → t.fitted ≡ false → desk_number desk (committing name q) ≡ fit_number_of q t.steps t.reversion
    unfolding desk_number
    commit-found q e = rw (awaiting-found e, found)

  -- no tree, and its cause
  absent-status : desk (name - 1) ≡ absent → (c : ℕ) → 0 < c → c < 3 → desk_status desk name ≡ c → ⊥
  unfolding desk_status
  absent-status e c low high = rw e (go (eqb name 0) (ltb 8 name))
    where
      go : (s t : Bool) → cond s 3 (cond t 3 0) ≡ c → ⊥
      go true t z = omega arith
      go false true z = omega arith
      go false false z = omega arith

  cause-15 : (desk_status desk name ≡ 1 → ⊥) → (desk_status desk name ≡ 2 → ⊥) → desk_cause desk name ≡ 15
  unfolding desk_cause
  cause-15 h i = rw (ne_eqb (desk_status desk name) 1 h, ne_eqb (desk_status desk name) 2 i)

  absent-cause : desk (name - 1) ≡ absent → desk_cause desk name ≡ 0 → ⊥
  absent-cause e z =
      let c = cause-15 (absent-status e 1 (omega arith) (omega arith)) (absent-status e 2 (omega arith) (omega arith)) in
      omega (arith, c)

  module _ (p : Pricing) where
    price-none : (desk_cause desk name ≡ 0 → ⊥) → desk_price desk name p ≡ refused_price 15
    unfolding desk_price
    price-none z = rw (ne_eqb (desk_cause desk name) 0 z)

    price-found : desk_cause desk name ≡ 0 → (t : ShelvedTree) → desk (name - 1) ≡ present t →
        desk_price desk name p ≡ with_bound (value_alone (plain_price p t.steps t.reversion t.discounts)) t.bound
    unfolding desk_price
    price-found z t e = rw (eq-eqb (desk_cause desk name) 0 z, e)

-- ---- the plain prices
plain-priced : (p : Pricing) (n b : ℕ) (d : List ℕ) →
    priced (plain_price p n b d).number (plain_price p n b d).value (tree_error_bound n b d) ≡ plain_price p n b d
plain-priced (bond flows) n b d = bond-whole implied {e = tree_error_bound n b d} (λ z. refl)
plain-priced (option flows kind expiry strike) n b d = option-whole implied {e = tree_error_bound n b d} (λ z. refl) kind expiry strike
plain-priced (dated flows side dates strike) n b d = dated-whole implied {e = tree_error_bound n b d} (λ z. refl) side dates strike

plain-bound : (p : Pricing) (n b : ℕ) (d : List ℕ) → (plain_price p n b d).number ≡ 0 → (plain_price p n b d).bound ≡ tree_error_bound n b d
plain-bound (bond flows) n b d h = (bond-given n b d flows h).bound
plain-bound (option flows kind expiry strike) n b d h = (option-given n b d flows kind expiry strike h).bound
plain-bound (dated flows side dates strike) n b d h = (dated-given n b d flows side dates strike h).bound

plain-within : (p : Pricing) (n b : ℕ) (d : List ℕ) → (plain_price p n b d).number ≡ 0 →
    Accurate (unit ^ n) (plain_price p n b d) (exact_of p n b d)
plain-within (bond flows) n b d h = bond-within-bound n b d flows h
plain-within (option flows kind expiry strike) n b d h = option-within-bound n b d flows kind expiry strike h
plain-within (dated flows side dates strike) n b d h = dated-within-bound n b d flows side dates strike h

plain-a-step : (p : Pricing) (n b : ℕ) (d : List ℕ) → (plain_price p n b d).number ≡ 0 → NoneAboveOne n b d → (plain_price p n b d).bound ≤ 2 * n
plain-a-step (bond flows) n b d h l = bond-bound-a-step n b d flows h l
plain-a-step (option flows kind expiry strike) n b d h l = option-bound-a-step n b d flows kind expiry strike h l
plain-a-step (dated flows side dates strike) n b d h l = dated-bound-a-step n b d flows side dates strike h l

module _ (k : Kept) (v : Valid k) (name : ℕ) where
  -- a tree and no cause
  module _ (z : desk_cause (seen k) name ≡ 0) (t : ShelvedTree) (found : seen k (name - 1) ≡ present t) where
    carried-plain : (p : Pricing) → price_of k name p ≡ with_bound (value_alone (plain_price p t.steps t.reversion t.discounts)) t.bound
    carried-plain p = price-is k v.sound name p ∙ price-found (seen k) name p z t found

    plain-number : (p : Pricing) → (price_of k name p).number ≡ (plain_price p t.steps t.reversion t.discounts).number
    plain-number p =
        ap (λ (x : Price). x.number) (carried-plain p) ∙ number-priced _ _ t.bound

    -- a tree that awaits its commit
    module _ (e : t.fitted ≡ false) where
      zeros-nine : discounts_cause t.steps t.reversion t.discounts ≡ 9
      zeros-nine =
          let g = v.good (name - 1) t found in
          ap (discounts_cause t.steps t.reversion) (g.unfitted e) ∙ zeros-cause t.steps t.reversion g.shape

      unfitted-number : (p : Pricing) (c : ℕ) → tree_cause t.steps t.reversion t.discounts (flows_of p) ≡ c → (c ≡ 0 → ⊥) →
          (price_of k name p).number ≡ c
      unfitted-number p c h y =
          plain-number p ∙ tree-refuses p t.steps t.reversion t.discounts (λ w. y (sym h ∙ w)) ∙ h

      is-nine : (p : Pricing) → length (flows_of p) ≡ t.steps → (price_of k name p).number ≡ 9
      is-nine p h = unfitted-number p 9 (nine t.steps t.reversion t.discounts (flows_of p) zeros-nine h) (λ y. omega arith)

      is-six : (p : Pricing) → (length (flows_of p) ≡ t.steps → ⊥) → (price_of k name p).number ≡ 6
      is-six p h = unfitted-number p 6 (six t.steps t.reversion t.discounts (flows_of p) zeros-nine h) (λ y. omega arith)

      not-priced : (p : Pricing) → (price_of k name p).number ≡ 0 → ⊥
      not-priced p y =
          by_equal (length (flows_of p)) t.steps
          (λ (h : length (flows_of p) ≡ t.steps). omega (arith, is-nine p h))
          (λ (h : length (flows_of p) ≡ t.steps → ⊥). omega (arith, is-six p h))

    -- the whole answer is the plain entry's
    plain : (p : Pricing) → price_of k name p ≡ plain_price p t.steps t.reversion t.discounts
    plain p =
        carried-plain p
        ∙ priced-alike _ _ t.bound (tree_error_bound t.steps t.reversion t.discounts)
        (λ h.
        by-fitted t.fitted
        (λ (f : t.fitted ≡ true). (v.good (name - 1) t found).fitted-bound f)
        (λ (f : t.fitted ≡ false). absurd (not-priced f p (plain-number p ∙ h))))
        ∙ plain-priced p t.steps t.reversion t.discounts

    priced-tree : (p : Pricing) → (price_of k name p).number ≡ 0 → t.fitted ≡ true → PricedTree k name p
    priced-tree p y f =
        let same = plain p in
        let zero = sym (plain-number p) ∙ y in
        let bound : t.bound ≡ (plain_price p t.steps t.reversion t.discounts).bound =
        (v.good (name - 1) t found).fitted-bound f ∙ sym (plain-bound p t.steps t.reversion t.discounts zero) in
        record {
          tree = t;
          found = found;
          fitted = f;
          carried = ap (λ (x : Price). x.bound) same ∙ sym bound;
          answered = same;
          accurate =
              subst (λ (x : Price). Accurate (unit ^ t.steps) x (exact_of p t.steps t.reversion t.discounts)) (sym same)
              (plain-within p t.steps t.reversion t.discounts zero);
          a-step = λ l. rw bound (plain-a-step p t.steps t.reversion t.discounts zero l);
        }

  -- ---- what the promises say
  pub plain-is : (t : ShelvedTree) → 1 ≤ name → name ≤ 8 → seen k (name - 1) ≡ present t → (p : Pricing) →
      price_of k name p ≡ plain_price p t.steps t.reversion t.discounts
  plain-is t low high found p = plain (cause-found (seen k) name t low high found) t found p

  pub unfitted-is : (t : ShelvedTree) → 1 ≤ name → name ≤ 8 → seen k (name - 1) ≡ present t → t.fitted ≡ false → (p : Pricing) →
      (length (flows_of p) ≡ t.steps → (price_of k name p).number ≡ 9) × ((length (flows_of p) ≡ t.steps → ⊥) → (price_of k name p).number ≡ 6)
  unfitted-is t low high found e p =
      let z = cause-found (seen k) name t low high found in
      (is-nine z t found e p, is-six z t found e p)

  pub commit-is-fit : (q : Quoted) (t : ShelvedTree) → 1 ≤ name → name ≤ 8 → seen k (name - 1) ≡ present t → t.fitted ≡ false →
      (discounts prices : ℕ) → discounts_needed t.steps t.reversion ≤ discounts → state_prices_needed t.steps t.reversion ≤ prices →
      number_of k (committing name q)
      ≡ fit_number q.frequency t.steps t.reversion q.volatility q.rows q.kinds q.figures discounts prices
  commit-is-fit q t low high found e discounts prices h l =
      (follows k v (committing name q)).number
      ∙ commit-found (seen k) name t low high found q e
      ∙ any-room t.steps t.reversion (v.good (name - 1) t found).shape q.frequency q.volatility q.rows q.kinds q.figures
      discounts prices h l

  refused-15 : (p : Pricing) → (desk_cause (seen k) name ≡ 0 → ⊥) → (price_of k name p).number ≡ 15
  refused-15 p z = ap (λ (x : Price). x.number) (price-is k v.sound name p ∙ price-none (seen k) name p z)

  pub fitted-is : (t : ShelvedTree) → seen k (name - 1) ≡ present t → t.fitted ≡ true → (p : Pricing) → (price_of k name p).number ≡ 9 → ⊥
  fitted-is t found f p y =
      by_equal (desk_cause (seen k) name) 0
      (λ (z : desk_cause (seen k) name ≡ 0).
      never-nine p t.steps t.reversion t.discounts ((v.good (name - 1) t found).accepted f) (sym (plain-number z t found p) ∙ y))
      (λ (z : desk_cause (seen k) name ≡ 0 → ⊥). omega (arith, refused-15 p z))

  pub accurate-is : (p : Pricing) → (price_of k name p).number ≡ 0 → PricedTree k name p
  accurate-is p y =
      by_equal (desk_cause (seen k) name) 0
      (λ (z : desk_cause (seen k) name ≡ 0).
      by-seen (seen k (name - 1))
      (λ (e : seen k (name - 1) ≡ absent). absurd (absent-cause (seen k) name e z))
      (λ (t : ShelvedTree) (found : seen k (name - 1) ≡ present t).
      by-fitted t.fitted
      (λ (f : t.fitted ≡ true). priced-tree z t found p y f)
      (λ (f : t.fitted ≡ false). absurd (not-priced z t found f p y))))
      (λ (z : desk_cause (seen k) name ≡ 0 → ⊥). let none : ⊥ = omega (arith, refused-15 p z) in absurd none)

  pub parts_are : (t : ShelvedTree) → 1 ≤ name → name ≤ 8 → seen k (name - 1) ≡ present t →
      part k.memory (part_of k.slots name).start (part_of k.slots name).count ≡ t.discounts
  parts_are t low high found =
      let z : name_cause k.slots name ≡ 0 = cause-is k v.sound name ∙ cause-found (seen k) name t low high found in
      part-found k.slots name k.memory z
      ∙ sym (discounts-is k v.sound name z)
      ∙ ap discounts_seen found
