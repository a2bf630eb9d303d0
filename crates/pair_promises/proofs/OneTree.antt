-- With every needed discount of one tree equal to one, the whole answer is the other tree's: number, price and error bound.
-- Assumes nothing.
use mathlib.Core.Path.{◌≡◌, refl, sym, ap, ap₂, ◌∙◌}
use mathlib.Core.Bool.{Bool, true, false, cond}
use mathlib.Core.List.{List}
use mathlib.Core.Logic.{◌⊎◌, inl, inr, ⊎_elim}
use Prim.Native.Nat.{ℕ, ◌+◌, ◌*◌, ◌/◌, ◌≤◌, ◌<◌, max}
use native.Mathlib.Nat.{le_antisymm}
use native.Mathlib.Omega.{arith}
use lib.Dec.{eqb}
use lib.ListN.{length}
use borrow.Author.Tests.{lt-ltb, ne_eqb}
use Rattle.arithmetic.specs.Rounding.{one}
use Rattle.arithmetic.specs.Sum.{greatest}
use Rattle.arithmetic.specs.Row.{values, each, between}
use Rattle.arithmetic.specs.Answers.{lowest_cause, first_cause}
use Rattle.arithmetic.proofs.Numbers.{by_equal, by_order}
use Rattle.arithmetic.proofs.SumLaws.{greatest-ge, greatest-le, greatest-cong}
use Rattle.arithmetic.proofs.RowLaws.{each_all}
use Rattle.arithmetic.proofs.BetweenLaws.{between-holds}
use Rattle.arithmetic.proofs.CauseLaws.{lowest-first, lowest-second, lowest-less, lowest-alone, lowest-none, first_some, first-later, first-none}
use Rattle.limits.specs.Limits.{most_steps, most_discount, is_steps, limit_cause, shape_cause}
use Rattle.limits.proofs.LimitLaws.{from-one-none, from-one-holds, shape-steps, shape-found}
use Rattle.lattice.specs.Shape.{node_count, row_start, discounts_needed}
use Rattle.lattice.specs.RateTree.{rate_tree}
use Rattle.lattice.proofs.Sizes.{row_ends, count-positive}
use Rattle.lattice.proofs.RateTreeLaws.{rate-tree-sound}
use Rattle.lent_tree.specs.LentTree.{stored, Accepted, accepted_discounts, discounts_cause}
use Rattle.lent_tree.proofs.LentLaws.{accepted, lent-accepted}
use Rattle.pricing_laws.specs.Pricer.{Side, Schedule, bond, option}
use Rattle.pricing_laws.specs.Schedule.{numbered_side, dated_schedule, dates_cause}
use Rattle.pricing_laws.specs.TreePricer.{roll_rounding, roll_loss, roll, engine, greatest_discount}
use Rattle.pricing_laws.specs.Peak.{greatest_value}
use Rattle.pricing_laws.proofs.Dates.{dates-accepted}
use Rattle.pricing_laws.proofs.PriceLaws.{roll-rounds}
use Rattle.pricing_laws.proofs.Follows.{Follows, Top-follows, bond-follows, option-follows, bond-peak-follows, option-peak-follows, error-bound-same}
use Rattle.price_bound.specs.PriceBound.{tree_error_bound}
use Rattle.price_causes.specs.Causes.{most_flow, flows_cause, terms_cause}
use Rattle.price_laws.specs.Prices.{flow_at, tree_cause, refused_price, priced, bond_value, bond_peak}
use Rattle.price_laws.specs.Prices.{option_value, option_peak, option_limit, bond_price, dated_cause, dated_price}
use Rattle.price_laws.proofs.Accuracy.{tree_lent}
use Rattle.pair_laws.specs.Pair.{Pair, at, Stands, combined, greatest_combined}
use Rattle.pair_laws.specs.PairCauses.{most_pair_steps, pair_steps_cause, discounted, combined_cause, pair_discounts_cause, pair_cause}
use Rattle.pair_laws.specs.PairPrices.{greatest_pair, pair_bound, pair_bond_value, pair_bond_peak, pair_option_value}
use Rattle.pair_laws.specs.PairPrices.{pair_option_peak, pair_option_limit, pair_bond_price, pair_dated_price}
use Rattle.pair_laws.specs.inside.Accepted.{roll_of}
use Rattle.pair_laws.proofs.CauseLaws.{rate-steps-refused, steps-passed, combined-passed}
use Rattle.pair_laws.proofs.PairLaws.{follows-rates, follows-spreads}
use Rattle.pair_promises.specs.PairPromises.{Ones}

-- the greatest of equal values
greatest-same : (n : ℕ) (f : ℕ → ℕ) (x : ℕ) → 0 < n → ((k : ℕ) → k < n → f k ≡ x) → greatest n f ≡ x
greatest-same n f x some h =
    le_antisymm (greatest-le n f x (λ k l. omega (arith, h k l))) (omega (arith, greatest-ge n f 0 some, h 0 some))

-- ---- causes

-- a cause about flows is above 3
flows-above : (n : ℕ) (flows : List ℕ) → (flows_cause n flows ≡ 0) ⊎ (3 < flows_cause n flows)
unfolding flows_cause
flows-above n flows = go (eqb (length flows) n) (each (length flows) (between 0 most_flow (values flows)))
  where
    go : (p q : Bool) → (◌≡◌ {A = ℕ} (cond p (cond q 0 10) 6) 0) ⊎ (3 < cond p (cond q 0 10) 6)
    go true true = inl refl
    go true false = inr (omega arith)
    go false q = inr (omega arith)

-- 3 is the lowest
lowest-three : (d f : ℕ) → d ≡ 3 → (f ≡ 0) ⊎ (3 < f) → lowest_cause d f ≡ 3
lowest-three d f e h =
    ⊎_elim
    (λ z. sym (lowest-second d f (λ k. omega arith) z) ∙ e)
    (λ l. sym (lowest-less d f (λ k. omega arith) (λ k. omega arith) (omega arith)) ∙ e) h

-- steps outside their limits are the first cause about a tree
steps_first : (n b : ℕ) (discounts : List ℕ) → is_steps n ≡ false → discounts_cause n b discounts ≡ 3
unfolding discounts_cause
steps_first n b discounts e =
    let s : shape_cause n b ≡ 3 = sym (shape-steps n b e) in rw s

-- no cause about a pair where there is none about the tree
same_first : (d p : ℕ) → (d ≡ 0 → p ≡ 0) → first_cause d p ≡ d
same_first d p h = by_equal d 0 (λ z. first-later d p z ∙ h z ∙ sym z) (λ nz. first_some d p nz)

-- a refusal shows its number alone
refused-any : (c v g : ℕ) → (c ≡ 0 → ⊥) → priced c v g ≡ refused_price c
unfolding priced
refused-any c v g nz = rw (ne_eqb c 0 nz)

-- whole answers: the same causes, and the same price and bound where there is none
answers-same :
    {x y p q v w g h : ℕ} → x ≡ y → (y ≡ 0 → (p ≡ q) × (v ≡ w) × (g ≡ h)) → priced (first_cause x p) v g ≡ priced (first_cause y q) w h
answers-same {x} {y} {p} {q} {v} {w} {g} {h} e same =
    by_equal y 0
    (λ z.
    let s = same z in
    rw (e, s.0, s.1, s.2))
    (λ nz.
    let xs : first_cause x p ≡ y = first_some x p (λ z. nz (sym e ∙ z)) ∙ e in
    let ys : first_cause y q ≡ y = first_some y q nz in
    rw (xs, ys) (refused-any y v g nz ∙ sym (refused-any y w h nz)))

first-assoc : (x y z : ℕ) → first_cause (first_cause x y) z ≡ first_cause x (first_cause y z)
first-assoc x y z =
    by_equal x 0
    (λ e. ap (λ (t : ℕ). first_cause t z) (first-later x y e) ∙ sym (first-later x (first_cause y z) e))
    (λ n. ap (λ (t : ℕ). first_cause t z) (first_some x y n) ∙ first_some x z n ∙ sym (first_some x (first_cause y z) n))

-- ---- a tree of ones

module _ (n c : ℕ) (spreads : List ℕ) (o : Ones n c spreads) where
  one_at : (i k : ℕ) → i < n → k < node_count c i → stored c spreads i k ≡ one
  unfolding stored
  one_at i k hi hk = o.ones (row_start c i + k) (omega (arith, row_ends c i n hi))

  ones-cause : 0 < n → n ≤ most_pair_steps → discounts_cause n c spreads ≡ 0
  unfolding accepted_discounts discounts_needed
  ones-cause some few =
      lent-accepted n c spreads (shape-found n c some (omega arith) o.reversion) o.room
      (each_all (row_start c n) _
      (λ k h. between-holds 1 most_discount (values spreads) k (omega (arith, o.ones k h)) (omega (arith, o.ones k h))))

-- a discount of at least 1 beside one
product-left : (x y : ℕ) → 1 ≤ x → y ≡ one → 0 < x * y / one
product-left x y h e = rw e (omega arith)

product-right : (x y : ℕ) → x ≡ one → 1 ≤ y → 0 < x * y / one
product-right x y e h = rw e (omega arith)

at_least_one : (n b : ℕ) (discounts : List ℕ) → Accepted n b discounts → (i k : ℕ) → i < n → k < node_count b i → 1 ≤ stored b discounts i k
unfolding stored
at_least_one n b discounts a i k hi hk = a.positive (row_start b i + k) (omega (arith, row_ends b i n hi))

-- the causes, where those about one tree of the two are none
causes-same :
    (n : ℕ) (flows : List ℕ) (d p x y t : ℕ) → n ≤ most_pair_steps → (is_steps n ≡ false → t ≡ 3) → (0 < n → x ≡ t) → x ≡ first_cause d p →
    y ≡ first_cause (pair_steps_cause n n) (lowest_cause x (flows_cause n flows)) → y ≡ lowest_cause t (flows_cause n flows)
causes-same n flows d p x y t few three same ex ey =
    by_order n 0
    (λ h.
    let none : is_steps n ≡ false = from-one-none most_steps n (omega arith) in
    let s : 3 ≡ pair_steps_cause n n = rate-steps-refused n n none in
    ey ∙ first_some _ _ (λ z. omega (arith, s)) ∙ sym s ∙ sym (lowest-three t (flows_cause n flows) (three none) (flows-above n flows)))
    (λ h.
    let known : is_steps n ≡ true = from-one-holds most_steps n h (omega arith) in
    ey ∙ first-later _ _ (sym (steps-passed n n known known few refl)) ∙ ap (λ (k : ℕ). lowest_cause k (flows_cause n flows)) (same h))

-- ---- The spread tree is one.
module _ (n b : ℕ) (rates : List ℕ) (c : ℕ) (spreads flows : List ℕ) (few : n ≤ most_pair_steps) (o : Ones n c spreads) where
  rates-combined : discounts_cause n b rates ≡ 0 → combined_cause n b c rates spreads ≡ 0
  unfolding discounted combined
  rates-combined z =
      let a = accepted n b rates z in
      sym (combined-passed b c rates spreads
      (λ i hi. each_all (node_count b i) _ (λ j hj. each_all (node_count c i) _
      (λ l hl. lt-ltb 0 (stored b rates i j * stored c spreads i l / one)
      (product-left (stored b rates i j) (stored c spreads i l) (at_least_one n b rates a i j hi hj) (one_at n c spreads o i l hi hl))))))

  rates-discounts : 0 < n → pair_discounts_cause n b rates n c spreads ≡ discounts_cause n b rates
  unfolding pair_discounts_cause
  rates-discounts some =
      let e : lowest_cause (discounts_cause n b rates) (discounts_cause n c spreads) ≡ discounts_cause n b rates
      = sym (lowest-alone _ _ (ones-cause n c spreads o some few)) in
      rw e (same_first _ _ rates-combined)

  rates-cause : pair_cause n b rates n c spreads flows ≡ tree_cause n b rates flows
  unfolding pair_cause tree_cause pair_discounts_cause
  rates-cause =
      causes-same n flows _ _ (pair_discounts_cause n b rates n c spreads) _ (discounts_cause n b rates) few (steps_first n b rates) rates-discounts refl
      refl

  rates-bound : pair_bound n b c rates spreads ≡ tree_error_bound n b rates
  unfolding pair_bound tree_error_bound greatest_combined greatest_discount combined rate_tree
  rates-bound =
      error-bound-same roll_loss _ _ n
      (λ i hi. greatest-cong (node_count b i) _ _
      (λ j hj. greatest-same (node_count c i) _ _ (count-positive c i) (λ l hl. rw (one_at n c spreads o i l hi hl) (omega arith))))

  rates-follow :
      Accepted n b rates →
      Follows n (Stands (rate_tree b) (rate_tree c)) (λ k. k.rate) (roll_of b c rates spreads) (roll (rate_tree b) (stored b rates) roll_rounding)
  unfolding rate_tree
  rates-follow a =
      follows-rates roll_rounding 1 1 roll-rounds (rate_tree b) (rate_tree c) (rate-tree-sound b a.limits.reversion-within-limit)
      (rate-tree-sound c o.reversion) (stored b rates) (stored c spreads) n (λ i k hi hk. one_at n c spreads o i k hi hk)

  rates-top : Top-follows (Stands (rate_tree b) (rate_tree c)) (λ k. k.rate) (greatest_pair b c) (λ i v. greatest (node_count b i) v)
  unfolding greatest_pair rate_tree
  rates-top =
      record {
        same-top = λ i v w h.
            greatest-cong (node_count b i) _ w
            (λ j hj. greatest-same (node_count c i) (λ l. v (at j l)) (w j) (count-positive c i)
            (λ l hl. h (at j l) (record { on-rates = hj; on-spreads = hl })));
      }

-- ---- The rate tree is one.
module _ (n b : ℕ) (rates : List ℕ) (c : ℕ) (spreads flows : List ℕ) (few : n ≤ most_pair_steps) (o : Ones n b rates) where
  spreads-combined : discounts_cause n c spreads ≡ 0 → combined_cause n b c rates spreads ≡ 0
  unfolding discounted combined
  spreads-combined z =
      let a = accepted n c spreads z in
      sym (combined-passed b c rates spreads
      (λ i hi. each_all (node_count b i) _ (λ j hj. each_all (node_count c i) _
      (λ l hl. lt-ltb 0 (stored b rates i j * stored c spreads i l / one)
      (product-right (stored b rates i j) (stored c spreads i l) (one_at n b rates o i j hi hj) (at_least_one n c spreads a i l hi hl))))))

  spreads-discounts : 0 < n → pair_discounts_cause n b rates n c spreads ≡ discounts_cause n c spreads
  unfolding pair_discounts_cause
  spreads-discounts some =
      let e : lowest_cause (discounts_cause n b rates) (discounts_cause n c spreads) ≡ discounts_cause n c spreads
      = sym (lowest-first _ _ (ones-cause n b rates o some few)) in
      rw e (same_first _ _ spreads-combined)

  spreads-cause : pair_cause n b rates n c spreads flows ≡ tree_cause n c spreads flows
  unfolding pair_cause tree_cause pair_discounts_cause
  spreads-cause =
      causes-same n flows _ _ (pair_discounts_cause n b rates n c spreads) _ (discounts_cause n c spreads) few (steps_first n c spreads) spreads-discounts
      refl refl

  spreads-bound : pair_bound n b c rates spreads ≡ tree_error_bound n c spreads
  unfolding pair_bound tree_error_bound greatest_combined greatest_discount combined rate_tree
  spreads-bound =
      error-bound-same roll_loss _ _ n
      (λ i hi. greatest-same (node_count b i) _ _ (count-positive b i)
      (λ j hj. greatest-cong (node_count c i) _ _ (λ l hl. rw (one_at n b rates o i j hi hj) (omega arith))))

  spreads-follow :
      Accepted n c spreads →
      Follows n (Stands (rate_tree b) (rate_tree c)) (λ k. k.spread) (roll_of b c rates spreads) (roll (rate_tree c) (stored c spreads) roll_rounding)
  unfolding rate_tree
  spreads-follow a =
      follows-spreads roll_rounding 1 1 roll-rounds (rate_tree b) (rate_tree c) (rate-tree-sound b o.reversion)
      (rate-tree-sound c a.limits.reversion-within-limit) (stored b rates) (stored c spreads) n (λ i k hi hk. one_at n b rates o i k hi hk)

  spreads-top : Top-follows (Stands (rate_tree b) (rate_tree c)) (λ k. k.spread) (greatest_pair b c) (λ i v. greatest (node_count c i) v)
  unfolding greatest_pair rate_tree
  spreads-top =
      record {
        same-top = λ i v w h.
            greatest-same (node_count b i) _ (greatest (node_count c i) w) (count-positive b i)
            (λ j hj. greatest-cong (node_count c i) (λ l. v (at j l)) w (λ l hl. h (at j l) (record { on-rates = hj; on-spreads = hl })));
      }

-- ---- Either tree t with discounts us, that the pair follows along a map of nodes.
module _ (n b c : ℕ) (rates spreads flows : List ℕ) (t : ℕ) (us : List ℕ) (to : Pair → ℕ) (origin : to (at 0 0) ≡ 0)
    (follows : Follows n (Stands (rate_tree b) (rate_tree c)) to (roll_of b c rates spreads) (roll (rate_tree t) (stored t us) roll_rounding))
    (tops : Top-follows (Stands (rate_tree b) (rate_tree c)) to (greatest_pair b c) (λ i v. greatest (node_count t i) v)) where
  root : Stands (rate_tree b) (rate_tree c) 0 (at 0 0)
  unfolding rate_tree
  root = record { on-rates = count-positive b 0; on-spreads = count-positive c 0 }

  bond-value : pair_bond_value n b c rates spreads flows 0 (at 0 0) ≡ bond_value n t us flows 0 0
  unfolding pair_bond_value bond_value
  bond-value =
      bond-follows n (Stands (rate_tree b) (rate_tree c)) to _ _ follows (flow_at flows) 0 (omega arith) (at 0 0) root
      ∙ ap (bond (engine (rate_tree t) (stored t us)) (flow_at flows) n 0) origin

  bond-tops : pair_bond_peak n b c rates spreads flows ≡ bond_peak n t us flows
  unfolding pair_bond_peak pair_bond_value bond_peak bond_value greatest_value rate_tree
  bond-tops = bond-peak-follows n (Stands (rate_tree b) (rate_tree c)) to _ _ follows _ _ tops (flow_at flows)

  module _ (side : Side) (strike : ℕ) (rows : Schedule) (h : rows.last ≤ n) where
    option-value : pair_option_value n b c rates spreads flows side strike rows 0 (at 0 0) ≡ option_value n t us flows side strike rows 0 0
    unfolding pair_option_value option_value
    option-value =
        option-follows n (Stands (rate_tree b) (rate_tree c)) to _ _ follows (flow_at flows) side strike rows 0 (omega arith) h (at 0 0) root
        ∙ ap (option (engine (rate_tree t) (stored t us)) (flow_at flows) n side strike rows 0) origin

    option-tops : pair_option_peak n b c rates spreads flows side strike rows ≡ option_peak n t us flows side strike rows
    unfolding pair_option_peak pair_option_value option_peak option_value greatest_value rate_tree
    option-tops = option-peak-follows n (Stands (rate_tree b) (rate_tree c)) to _ _ follows _ _ tops (flow_at flows) side strike rows h

-- ---- The whole answers, from either side.
module _ (n b : ℕ) (rates : List ℕ) (c : ℕ) (spreads flows : List ℕ) (t : ℕ) (us : List ℕ) (to : Pair → ℕ) (origin : to (at 0 0) ≡ 0)
    (causes : pair_cause n b rates n c spreads flows ≡ tree_cause n t us flows) (bounds : pair_bound n b c rates spreads ≡ tree_error_bound n t us)
    (follows : Accepted n t us →
    Follows n (Stands (rate_tree b) (rate_tree c)) to (roll_of b c rates spreads) (roll (rate_tree t) (stored t us) roll_rounding))
    (tops : Top-follows (Stands (rate_tree b) (rate_tree c)) to (greatest_pair b c) (λ i v. greatest (node_count t i) v)) where
  bond-alone : pair_bond_price n b rates n c spreads flows ≡ bond_price n t us flows
  unfolding pair_bond_price bond_price
  bond-alone =
      answers-same causes
      (λ z.
      let f = follows (tree_lent n t us flows z) in
      (ap limit_cause (bond-tops n b c rates spreads flows t us to origin f tops), bond-value n b c rates spreads flows t us to origin f tops, bounds))

  last-inside : (side : ℕ) (dates : List ℕ) (strike : ℕ) → dated_cause n side dates strike ≡ 0 → (dated_schedule dates).last ≤ n
  unfolding dated_cause dated_schedule
  last-inside side dates strike z =
      omega (arith, (dates-accepted n dates (lowest-none (terms_cause side strike) (dates_cause n dates) z).1).before-end)

  dated-alone :
      (side : ℕ) (dates : List ℕ) (strike : ℕ) → pair_dated_price n b rates n c spreads flows side dates strike ≡ dated_price n t us flows side dates strike
  unfolding pair_dated_price dated_price pair_option_limit option_limit
  dated-alone side dates strike =
      rw (
        ← first-assoc (pair_cause n b rates n c spreads flows) (dated_cause n side dates strike),
        ← first-assoc (tree_cause n t us flows) (dated_cause n side dates strike),
      )
      (answers-same (ap (λ (x : ℕ). first_cause x (dated_cause n side dates strike)) causes)
      (λ z.
      let y = first-none (tree_cause n t us flows) (dated_cause n side dates strike) z in
      let f = follows (tree_lent n t us flows y.0) in
      let h = last-inside side dates strike y.1 in (
        ap₂ (λ (p q : ℕ). limit_cause (max p q)) (bond-tops n b c rates spreads flows t us to origin f tops)
            (option-tops n b c rates spreads flows t us to origin f tops (numbered_side side) strike (dated_schedule dates) h),
        option-value n b c rates spreads flows t us to origin f tops (numbered_side side) strike (dated_schedule dates) h,
        bounds,
      )))

module _ (n b : ℕ) (rates : List ℕ) (c : ℕ) (spreads flows : List ℕ) (few : n ≤ most_pair_steps) (o : Ones n c spreads) where
  pub bond-of-rates : pair_bond_price n b rates n c spreads flows ≡ bond_price n b rates flows
  bond-of-rates =
      bond-alone n b rates c spreads flows b rates (λ k. k.rate) refl (rates-cause n b rates c spreads flows few o)
      (rates-bound n b rates c spreads flows few o) (rates-follow n b rates c spreads flows few o) (rates-top n b rates c spreads flows few o)

  pub dated-of-rates :
      (side : ℕ) (dates : List ℕ) (strike : ℕ) →
      pair_dated_price n b rates n c spreads flows side dates strike ≡ dated_price n b rates flows side dates strike
  dated-of-rates =
      dated-alone n b rates c spreads flows b rates (λ k. k.rate) refl (rates-cause n b rates c spreads flows few o)
      (rates-bound n b rates c spreads flows few o) (rates-follow n b rates c spreads flows few o) (rates-top n b rates c spreads flows few o)

module _ (n b : ℕ) (rates : List ℕ) (c : ℕ) (spreads flows : List ℕ) (few : n ≤ most_pair_steps) (o : Ones n b rates) where
  pub bond-of-spreads : pair_bond_price n b rates n c spreads flows ≡ bond_price n c spreads flows
  bond-of-spreads =
      bond-alone n b rates c spreads flows c spreads (λ k. k.spread) refl (spreads-cause n b rates c spreads flows few o)
      (spreads-bound n b rates c spreads flows few o) (spreads-follow n b rates c spreads flows few o) (spreads-top n b rates c spreads flows few o)

  pub dated-of-spreads :
      (side : ℕ) (dates : List ℕ) (strike : ℕ) →
      pair_dated_price n b rates n c spreads flows side dates strike ≡ dated_price n c spreads flows side dates strike
  dated-of-spreads =
      dated-alone n b rates c spreads flows c spreads (λ k. k.spread) refl (spreads-cause n b rates c spreads flows few o)
      (spreads-bound n b rates c spreads flows few o) (spreads-follow n b rates c spreads flows few o) (spreads-top n b rates c spreads flows few o)
