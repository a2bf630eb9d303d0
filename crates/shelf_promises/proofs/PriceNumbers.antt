-- The numbers of plain prices, by the causes about the tree's discounts.
-- Assumes nothing.
use mathlib.Core.Path.{◌≡◌, refl, sym, ap, ◌∙◌}
use Prim.Native.Nat.{ℕ, ◌≤◌, ◌<◌}
use mathlib.Core.Bool.{Bool, true, false, cond, ◌&&◌}
use mathlib.Core.List.{List}
use native.Mathlib.Omega.{arith}
use borrow.Author.Tests.{le-leb, eq-eqb, ne_eqb, eqb-true}
use lib.Dec.{eqb, leb, ltb}
use lib.ListN.{length}
use Rattle.arithmetic.specs.Row.{values, each, between}
use Rattle.arithmetic.specs.Answers.{lowest_cause, first_cause}
use Rattle.arithmetic.proofs.Numbers.{by_equal, by_order}
use Rattle.arithmetic.proofs.RowLaws.{length-row, values-row, each-fails}
use Rattle.arithmetic.proofs.CauseLaws.{lowest-first, lowest-second, lowest-less, lowest-more}
use Rattle.limits.specs.Limits.{is_discount, value_limit, shape_cause, limit_cause}
use Rattle.limits.proofs.LimitLaws.{shape-accepted}
use Rattle.lattice.specs.Shape.{discounts_needed}
use Rattle.lattice.proofs.Sizes.{count-positive, row_ends}
use Rattle.lent_tree.specs.LentTree.{accepted_discounts, discounts_cause}
use Rattle.pricing_laws.specs.Schedule.{rising, last_date, dates_cause}
use Rattle.price_causes.specs.Causes.{most_flow, most_strike, flows_cause, option_cause, terms_cause}
use Rattle.price_laws.specs.declared.Price.{Price}
use Rattle.price_laws.specs.Prices.{tree_cause, priced, bond_price, option_price, dated_cause, dated_price, option_limit}
use Rattle.shelf_laws.specs.Parts.{zeros}
use Rattle.shelf_promises.specs.Model.{Pricing, bond, option, dated, flows_of, plain_price}

-- ---- numbers that are none of a cause's
choice-not : (c : ℕ) (t : Bool) (x y : ℕ) → (x ≡ c → ⊥) → (y ≡ c → ⊥) → cond t x y ≡ c → ⊥
choice-not c true x y p q = p
choice-not c false x y p q = q

first-not : (c x y : ℕ) → (x ≡ c → ⊥) → (y ≡ c → ⊥) → first_cause x y ≡ c → ⊥
unfolding first_cause
first-not c x y p q = choice-not c (eqb x 0) y x q p

lowest-not : (c x y : ℕ) → (x ≡ c → ⊥) → (y ≡ c → ⊥) → lowest_cause x y ≡ c → ⊥
lowest-not c x y p q e =
    by_equal x 0
    (λ (zx : x ≡ 0). q (lowest-first x y zx ∙ e))
    (λ (nx : x ≡ 0 → ⊥). by_equal y 0
    (λ (zy : y ≡ 0). p (lowest-second x y nx zy ∙ e))
    (λ (ny : y ≡ 0 → ⊥). by_order y x (λ (h : y ≤ x). q (lowest-more x y nx ny h ∙ e)) (λ (h : x < y). p (lowest-less x y nx ny h ∙ e))))

-- an answer's number is its cause
priced-number : (cause v e : ℕ) → (priced cause v e).number ≡ cause
unfolding priced
priced-number cause v e = go (eqb cause 0) refl
  where
    go : (t : Bool) → eqb cause 0 ≡ t →
        (cond {A = Price} t (record { number = 0; value = v; bound = e }) (record { number = cause; value = 0; bound = 0 })).number ≡ cause
    go true q = sym (eqb-true cause 0 q)
    go false q = refl

first-cause : (x y : ℕ) → (x ≡ 0 → ⊥) → first_cause x y ≡ x
unfolding first_cause
first-cause x y h = rw (ne_eqb x 0 h)

-- a cause about the tree is every price's
pub tree-refuses : (p : Pricing) (n b : ℕ) (d : List ℕ) → (tree_cause n b d (flows_of p) ≡ 0 → ⊥) → (plain_price p n b d).number ≡ tree_cause n b d (flows_of p)
unfolding bond_price option_price dated_price
tree-refuses (bond flows) n b d h = priced-number _ _ _ ∙ first-cause (tree_cause n b d flows) _ h
tree-refuses (option flows kind expiry strike) n b d h = priced-number _ _ _ ∙ first-cause (tree_cause n b d flows) _ h
tree-refuses (dated flows side dates strike) n b d h = priced-number _ _ _ ∙ first-cause (tree_cause n b d flows) _ h

-- ---- a tree that was set aside
module _ (n b : ℕ) (shape : shape_cause n b ≡ 0) where
  some-nodes : 0 < discounts_needed n b
  unfolding discounts_needed
  some-nodes = omega (arith, row_ends b 0 n (omega (arith, (shape-accepted n b shape).0)), count-positive b 0)

  zero-refused : is_discount 0 ≡ false
  zero-refused = refl

  zeros-refused : accepted_discounts n b (zeros (discounts_needed n b)) ≡ false
  unfolding accepted_discounts
  zeros-refused =
      each-fails (discounts_needed n b) 0 _ some-nodes (ap is_discount (values-row (discounts_needed n b) 0 (λ k. 0) some-nodes) ∙ zero-refused)

  pub zeros-cause : discounts_cause n b (zeros (discounts_needed n b)) ≡ 9
  unfolding discounts_cause
  zeros-cause =
      rw (shape, le-leb (discounts_needed n b) (length (zeros (discounts_needed n b))) (omega (arith, length-row (discounts_needed n b) (λ k. 0))), zeros-refused)

flows-short : (n : ℕ) (flows : List ℕ) → (length flows ≡ n → ⊥) → flows_cause n flows ≡ 6
unfolding flows_cause
flows-short n flows h = rw (ne_eqb (length flows) n h)

flows-whole : (n : ℕ) (flows : List ℕ) → length flows ≡ n → (flows_cause n flows ≡ 0 → ⊥) → flows_cause n flows ≡ 10
unfolding flows_cause
flows-whole n flows h = rw (eq-eqb (length flows) n h) (go (each (length flows) (between 0 most_flow (values flows))))
  where
    go : (t : Bool) → (◌≡◌ {A = ℕ} (cond t 0 10) 0 → ⊥) → ◌≡◌ {A = ℕ} (cond t 0 10) 10
    go true z = absurd (z refl)
    go false z = refl

module _ (n b : ℕ) (d flows : List ℕ) (h : discounts_cause n b d ≡ 9) where
  pub nine : length flows ≡ n → tree_cause n b d flows ≡ 9
  unfolding tree_cause
  nine e =
      by_equal (flows_cause n flows) 0
      (λ (z : flows_cause n flows ≡ 0). sym (lowest-second (discounts_cause n b d) (flows_cause n flows) (λ y. omega arith) z) ∙ h)
      (λ (z : flows_cause n flows ≡ 0 → ⊥).
      let ten = flows-whole n flows e z in
      sym (lowest-less (discounts_cause n b d) (flows_cause n flows) (λ y. omega arith) z (omega arith)) ∙ h)

  pub six : (length flows ≡ n → ⊥) → tree_cause n b d flows ≡ 6
  unfolding tree_cause
  six e =
      let short = flows-short n flows e in
      sym (lowest-more (discounts_cause n b d) (flows_cause n flows) (λ y. omega arith) (λ y. omega arith) (omega arith)) ∙ short

-- ---- a tree whose discounts are accepted
flows-not : (n : ℕ) (flows : List ℕ) → flows_cause n flows ≡ 9 → ⊥
unfolding flows_cause
flows-not n flows =
    choice-not 9 (eqb (length flows) n) _ 6
    (choice-not 9 (each (length flows) (between 0 most_flow (values flows))) 0 10 (λ e. omega arith) (λ e. omega arith)) (λ e. omega arith)

limit-not : (v : ℕ) → limit_cause v ≡ 9 → ⊥
unfolding limit_cause
limit-not v = choice-not 9 (ltb value_limit v) 12 0 (λ e. omega arith) (λ e. omega arith)

option-not : (n kind expiry strike : ℕ) → option_cause n kind expiry strike ≡ 9 → ⊥
unfolding option_cause
option-not n kind expiry strike =
    choice-not 9 (leb 1 kind && leb kind 4 && ltb expiry n && leb strike most_strike) 0 11 (λ e. omega arith) (λ e. omega arith)

dated-not : (n side : ℕ) (dates : List ℕ) (strike : ℕ) → dated_cause n side dates strike ≡ 9 → ⊥
unfolding dated_cause terms_cause dates_cause
dated-not n side dates strike =
    lowest-not 9 _ _
    (choice-not 9 (leb 1 side && leb side 2 && leb strike most_strike) 0 11 (λ e. omega arith) (λ e. omega arith))
    (choice-not 9 (ltb 0 (length dates) && (rising dates && ltb (last_date dates) n)) 0 13 (λ e. omega arith) (λ e. omega arith))

tree-not : (n b : ℕ) (d flows : List ℕ) → discounts_cause n b d ≡ 0 → tree_cause n b d flows ≡ 9 → ⊥
unfolding tree_cause
tree-not n b d flows z = lowest-not 9 _ _ (λ e. omega arith) (flows-not n flows)

pub never-nine : (p : Pricing) (n b : ℕ) (d : List ℕ) → discounts_cause n b d ≡ 0 → (plain_price p n b d).number ≡ 9 → ⊥
unfolding bond_price option_price dated_price option_limit
never-nine (bond flows) n b d z e = first-not 9 _ _ (tree-not n b d flows z) (limit-not _) (sym (priced-number _ _ _) ∙ e)
never-nine (option flows kind expiry strike) n b d z e =
    first-not 9 _ _ (tree-not n b d flows z) (first-not 9 _ _ (option-not n kind expiry strike) (limit-not _)) (sym (priced-number _ _ _) ∙ e)
never-nine (dated flows side dates strike) n b d z e =
    first-not 9 _ _ (tree-not n b d flows z) (first-not 9 _ _ (dated-not n side dates strike) (limit-not _)) (sym (priced-number _ _ _) ∙ e)
