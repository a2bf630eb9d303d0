-- The walk back through two accepted trees: what the code holds at each row, the error bound row by row, and what a walk leaves.
-- Assumes nothing.
use mathlib.Core.Path.{◌≡◌, refl, sym, ap, ap₂, ◌∙◌, subst}
use mathlib.Core.Bool.{Bool}
use mathlib.Core.List.{List}
use Prim.Native.Nat.{ℕ, zero, suc, ◌+◌, ◌-◌, ◌*◌, ◌/◌, ◌≤◌, ◌<◌, max}
use native.Mathlib.Nat.{le_antisymm, le_trans, mul-le-mul}
use native.Mathlib.Omega.{arith}
use lib.Dec.{eqb}
use Rattle.arithmetic.specs.Rounding.{one, round_up}
use Rattle.arithmetic.specs.Row.{values}
use Rattle.arithmetic.specs.Sum.{greatest}
use Rattle.arithmetic.proofs.Numbers.{by_order}
use Rattle.arithmetic.proofs.SumLaws.{greatest-ge, greatest-le, greatest-cong}
use Rattle.limits.specs.Limits.{most_discount, value_limit}
use Rattle.lattice.specs.Shape.{node_count}
use Rattle.lattice.specs.RateTree.{rate_tree}
use Rattle.lattice.proofs.Sizes.{count-positive}
use Rattle.lattice.proofs.RateTreeLaws.{rate-tree-sound}
use Rattle.lent_tree.specs.LentTree.{stored, Accepted}
use Rattle.pricing_laws.specs.Pricer.{Side, call, put, Schedule, exercise, held_or_exercised}
use Rattle.pricing_laws.specs.TreePricer.{roll_rounding, roll_loss, greatest_discount}
use Rattle.pricing_laws.specs.inside.Marks.{marked}
use Rattle.pricing_laws.specs.Peak.{peak}
use Rattle.pricing_laws.proofs.Backward.{Greatest, Local, bond-limit, bond-first, bond-over, bond-step, option-limit, option-first, option-over, option-step}
use Rattle.pricing_laws.proofs.Peaks.{peak-grows}
use Rattle.pricing_laws.proofs.PriceLaws.{Discounts-at-most, roll-rounds}
use Rattle.pricing_laws.proofs.Recurrences.{error-bound-last, error-bound-before}
use Rattle.price_bound.proofs.BoundLaws.{discount-within}
use Rattle.price_causes.specs.Causes.{most_strike}
use Rattle.price_laws.specs.Prices.{flow_at}
use Rattle.pricing.specs.inside.Rows.{Holds}
use Rattle.pricing.proofs.TreeRows.{flow-within}
use Rattle.pair_laws.specs.Pair.{Pair, at, Stands, combined, greatest_combined, pair_error_bound}
use Rattle.pair_laws.specs.PairPrices.{greatest_of_row, greatest_pair, pair_bound, pair_bond_value, pair_bond_peak, pair_option_value, pair_option_peak}
use Rattle.pair_laws.specs.inside.Accepted.{roll_of}
use Rattle.pair_laws.specs.inside.Square.{square_size, square, LimitedPairs}
use Rattle.pair_laws.specs.inside.States.{AcceptedPair, Bonds, RolledBond, Options, RolledBoth, BondRow, OptionRow}
use Rattle.pair_laws.specs.PairCauses.{AcceptedTrees}
use Rattle.pair_laws.proofs.PairLaws.{pair-local, pair-bound-small}
use Rattle.pair_laws.proofs.SquareRows.{pair_place}

-- ---- the greatest of a row

pub pair-greatest : (b c : ℕ) → Greatest (Stands (rate_tree b) (rate_tree c)) (greatest_pair b c)
unfolding greatest_pair rate_tree
pair-greatest b c =
    record {
      at_most = λ i v k hk.
          le_trans (greatest-ge (node_count c i) (λ l. v (at k.rate l)) k.spread hk.on-spreads)
          (greatest-ge (node_count b i) (λ j. greatest (node_count c i) (λ l. v (at j l))) k.rate hk.on-rates);
      bounded = λ i v g h.
          greatest-le (node_count b i) _ g (λ j hj. greatest-le (node_count c i) _ g (λ l hl. h (at j l) (record { on-rates = hj; on-spreads = hl })));
      same = λ i v w h.
          greatest-cong (node_count b i) _ _
          (λ j hj. greatest-cong (node_count c i) _ _ (λ l hl. h (at j l) (record { on-rates = hj; on-spreads = hl })));
    }

pub pair-origin : (b c : ℕ) → Stands (rate_tree b) (rate_tree c) 0 (at 0 0)
unfolding rate_tree
pair-origin b c = record { on-rates = count-positive b 0; on-spreads = count-positive c 0 }

whole-peak : (top : ℕ → ℕ) (n i : ℕ) → i ≤ n → peak top n i ≤ peak top n 0
whole-peak top n i h =
    let e : 0 + i ≡ i = omega arith in
    subst (λ (x : ℕ). peak top n x ≤ peak top n 0) e (peak-grows top n 0 i (omega arith))

-- ---- bond and option, row by row

module _ (n b c : ℕ) (rates spreads flows : List ℕ) (a : AcceptedPair n b c rates spreads flows) where
  abbrev on : ℕ → Pair → Type 0
  on = Stands (rate_tree b) (rate_tree c)

  keeps : Local on (roll_of b c rates spreads)
  keeps =
      pair-local roll_rounding 1 1 roll-rounds (rate_tree b) (rate_tree c) (rate-tree-sound b a.trees.rate-tree.limits.reversion-within-limit)
      (rate-tree-sound c a.trees.spread-tree.limits.reversion-within-limit) (stored b rates) (stored c spreads)

  -- row n
  pub bonds-first :
      (memory : List ℕ) (f size : ℕ) → f ≡ flow_at flows n → size ≡ square_size → Holds memory size (λ k. f) → Bonds n b c rates spreads flows n memory
  unfolding square
  bonds-first memory f size e es h =
      bond-first n on (greatest_pair b c) (pair-greatest b c) (roll_of b c rates spreads) keeps (flow_at flows) (square memory)
      (omega (arith, flow-within n flows a.paid n (omega arith)))
      (λ k hk. h _ (omega (arith, es, pair_place b c n k a.trees.few hk)) ∙ e)

  pub bonds-limited : (i : ℕ) (memory : List ℕ) → 0 < i → Bonds n b c rates spreads flows i memory → LimitedPairs b c (i - 1 + 1) memory
  bonds-limited i memory h s =
      let e : i ≡ i - 1 + 1 = omega arith in
      subst (λ (x : ℕ). LimitedPairs b c x memory) e
      (bond-limit n on (greatest_pair b c) (pair-greatest b c) (roll_of b c rates spreads) keeps (flow_at flows) i (square memory) s)

  pub bonds-inside : (i : ℕ) (memory : List ℕ) → Bonds n b c rates spreads flows i memory → i ≤ n
  bonds-inside i memory s = s.in_tree

  -- one row back, from row i
  module _ (i : ℕ) (memory : List ℕ) (h : 0 < i) (s : Bonds n b c rates spreads flows i memory) (after : List ℕ) (flow top : ℕ)
      (ef : flow ≡ flow_at flows (i - 1)) (r : BondRow b c rates spreads (i - 1) flow memory after top) where
    before : Bonds n b c rates spreads flows (suc (i - 1)) memory
    before = let e : i ≡ suc (i - 1) = omega arith in subst (λ (x : ℕ). Bonds n b c rates spreads flows x memory) e s

    inside : i - 1 < n
    inside = omega (arith, s.in_tree)

    stepped : (k : Pair) → on (i - 1) k → square after k ≡ roll_of b c rates spreads (i - 1) (square memory) k + flow_at flows (i - 1)
    stepped k hk = r.rolled k hk ∙ ap (λ (x : ℕ). roll_of b c rates spreads (i - 1) (square memory) k + x) ef

    pub bonds-over : value_limit < top → value_limit < pair_bond_peak n b c rates spreads flows
    unfolding pair_bond_peak pair_bond_value
    bonds-over g =
        le_trans
        (bond-over n on (greatest_pair b c) (pair-greatest b c) (roll_of b c rates spreads) keeps (flow_at flows)
        (i - 1) (square memory) inside before (square after) stepped top r.found g)
        (whole-peak _ n (i - 1) (omega (arith, inside)))

    pub bonds-step : top ≤ value_limit → Bonds n b c rates spreads flows (i - 1) after
    bonds-step g =
        bond-step n on (greatest_pair b c) (pair-greatest b c) (roll_of b c rates spreads) keeps (flow_at flows)
        (i - 1) (square memory) inside before (square after) stepped top r.found g

  -- row 0
  pub bonds-value : (memory : List ℕ) → Bonds n b c rates spreads flows 0 memory → values memory 0 ≡ pair_bond_value n b c rates spreads flows 0 (at 0 0)
  unfolding pair_bond_value square
  bonds-value memory s = s.held (at 0 0) (pair-origin b c)

  pub bonds-peak : (memory : List ℕ) → Bonds n b c rates spreads flows 0 memory → pair_bond_peak n b c rates spreads flows ≤ value_limit
  unfolding pair_bond_peak pair_bond_value
  bonds-peak memory s = s.within-limit

  exercise-most : (side : Side) (strike bond flow : ℕ) → strike ≤ value_limit → bond ≤ value_limit → exercise side strike (bond - flow) ≤ value_limit
  unfolding exercise
  exercise-most call strike bond flow hs hb = omega arith
  exercise-most put strike bond flow hs hb = omega arith

  -- the option, beside the bond
  module _ (side : Side) (strike : ℕ) (rows : Schedule) where
    -- its last row
    pub options-first :
        (bonds options : List ℕ) (flow : ℕ) → strike ≤ most_strike → flow ≡ flow_at flows rows.last → Bonds n b c rates spreads flows rows.last bonds →
        ((k : Pair) → on rows.last k → square options k ≡ exercise side strike (square bonds k - flow)) →
        Options n b c rates spreads flows side strike rows rows.last options
    options-first bonds options flow hs ef s step =
        let last : (k : Pair) → on rows.last k → square options k ≡ exercise side strike (square bonds k - flow_at flows rows.last)
        = λ k hk. step k hk ∙ ap (λ (x : ℕ). exercise side strike (square bonds k - x)) ef in
        option-first n on (greatest_pair b c) (pair-greatest b c) (roll_of b c rates spreads) keeps (flow_at flows) side strike rows
        (square bonds) (square options) s last
        (λ k hk. rw (last k hk)
        (exercise-most side strike (square bonds k) _ (omega arith)
        (bond-limit n on (greatest_pair b c) (pair-greatest b c) (roll_of b c rates spreads) keeps (flow_at flows) rows.last (square bonds) s k hk)))

    pub options-limited :
        (i : ℕ) (memory : List ℕ) → 0 < i → Options n b c rates spreads flows side strike rows i memory → LimitedPairs b c (i - 1 + 1) memory
    options-limited i memory h s =
        let e : i ≡ i - 1 + 1 = omega arith in
        subst (λ (x : ℕ). LimitedPairs b c x memory) e
        (option-limit n on (greatest_pair b c) (pair-greatest b c) (roll_of b c rates spreads) keeps (flow_at flows) side strike rows i (square memory) s)

    -- one row back, with the bond's later row and its new one
    module _ (i : ℕ) (memory : List ℕ) (h : 0 < i) (s : Options n b c rates spreads flows side strike rows i memory)
        (later bond : List ℕ) (bs : Bonds n b c rates spreads flows i later) (flow found : ℕ) (br : BondRow b c rates spreads (i - 1) flow later bond found)
        (listed : Bool) (el : listed ≡ rows.listed (i - 1)) (after : List ℕ) (top : ℕ)
        (r : OptionRow b c rates spreads (i - 1) flow side strike listed bond memory after top) where
      options-before : Options n b c rates spreads flows side strike rows (suc (i - 1)) memory
      options-before =
          let e : i ≡ suc (i - 1) = omega arith in subst (λ (x : ℕ). Options n b c rates spreads flows side strike rows x memory) e s

      bonds-before : Bonds n b c rates spreads flows (suc (i - 1)) later
      bonds-before = let e : i ≡ suc (i - 1) = omega arith in subst (λ (x : ℕ). Bonds n b c rates spreads flows x later) e bs

      option-stepped :
          (k : Pair) → on (i - 1) k →
          square after k
          ≡ held_or_exercised (rows.listed (i - 1)) (roll_of b c rates spreads (i - 1) (square memory) k)
          (exercise side strike (roll_of b c rates spreads (i - 1) (square later) k))
      option-stepped k hk =
          let bare : square bond k - flow ≡ roll_of b c rates spreads (i - 1) (square later) k = omega (arith, br.rolled k hk) in
          r.rolled k hk
          ∙ ap₂ (λ (t : Bool) (x : ℕ). held_or_exercised t (roll_of b c rates spreads (i - 1) (square memory) k) (exercise side strike x)) el bare

      pub options-over : value_limit < top → value_limit < pair_option_peak n b c rates spreads flows side strike rows
      unfolding pair_option_peak pair_option_value
      options-over g =
          le_trans
          (option-over n on (greatest_pair b c) (pair-greatest b c) (roll_of b c rates spreads) keeps (flow_at flows) side strike rows
          (i - 1) (square memory) (omega (arith, s.before_last)) options-before (square later) bonds-before (square after) option-stepped top r.found g)
          (whole-peak _ rows.last (i - 1) (omega (arith, s.before_last)))

      pub options-step : top ≤ value_limit → Options n b c rates spreads flows side strike rows (i - 1) after
      options-step g =
          option-step n on (greatest_pair b c) (pair-greatest b c) (roll_of b c rates spreads) keeps (flow_at flows) side strike rows
          (i - 1) (square memory) (omega (arith, s.before_last)) options-before (square later) bonds-before (square after) option-stepped top r.found g

    pub options-value :
        (memory : List ℕ) → Options n b c rates spreads flows side strike rows 0 memory →
        values memory 0 ≡ pair_option_value n b c rates spreads flows side strike rows 0 (at 0 0)
    unfolding pair_option_value square
    options-value memory s = s.held (at 0 0) (pair-origin b c)

    pub both-peak :
        (bonds options : List ℕ) → Bonds n b c rates spreads flows 0 bonds → Options n b c rates spreads flows side strike rows 0 options →
        max (pair_bond_peak n b c rates spreads flows) (pair_option_peak n b c rates spreads flows side strike rows) ≤ value_limit
    unfolding pair_bond_peak pair_bond_value pair_option_peak pair_option_value
    both-peak bonds options s t = omega (arith, s.within-limit, t.within-limit)

-- ---- what a walk leaves

module _ (n b c : ℕ) (rates spreads flows : List ℕ) where
  pub bond-refused : (to : ℕ) (memory : List ℕ) → value_limit < pair_bond_peak n b c rates spreads flows → RolledBond n b c rates spreads flows to 12 memory
  bond-refused to memory h = record { held = λ e. absurd (omega arith); over = λ e. (refl, h) }

  pub bond-rolled : (to i : ℕ) (memory : List ℕ) → i ≡ to → Bonds n b c rates spreads flows i memory → RolledBond n b c rates spreads flows to 0 memory
  bond-rolled to i memory e s =
      record { held = λ z. subst (λ (x : ℕ). Bonds n b c rates spreads flows x memory) e s; over = λ h. absurd (h refl) }

  module _ (side : Side) (strike : ℕ) (rows : Schedule) where
    both-refused :
        (i : ℕ) (bonds options : List ℕ) →
        value_limit < max (pair_bond_peak n b c rates spreads flows) (pair_option_peak n b c rates spreads flows side strike rows) →
        RolledBoth n b c rates spreads flows side strike rows i 12 bonds options
    both-refused i bonds options h =
        record { bonds-held = λ e. absurd (omega arith); options-held = λ e. absurd (omega arith); over = λ e. (refl, h) }

    pub both-bond :
        (i : ℕ) (bonds options : List ℕ) → value_limit < pair_bond_peak n b c rates spreads flows →
        RolledBoth n b c rates spreads flows side strike rows i 12 bonds options
    both-bond i bonds options h = both-refused i bonds options (omega arith)

    pub both-option :
        (i : ℕ) (bonds options : List ℕ) → value_limit < pair_option_peak n b c rates spreads flows side strike rows →
        RolledBoth n b c rates spreads flows side strike rows i 12 bonds options
    both-option i bonds options h = both-refused i bonds options (omega arith)

    pub both-rolled :
        (i : ℕ) (bonds options : List ℕ) → i ≡ 0 → Bonds n b c rates spreads flows i bonds → Options n b c rates spreads flows side strike rows i options →
        RolledBoth n b c rates spreads flows side strike rows 0 0 bonds options
    both-rolled i bonds options e s t =
        record {
          bonds-held = λ z. subst (λ (x : ℕ). Bonds n b c rates spreads flows x bonds) e s;
          options-held = λ z. subst (λ (x : ℕ). Options n b c rates spreads flows side strike rows x options) e t;
          over = λ h. absurd (h refl);
        }

-- ---- the error bound

-- the greatest of a row is one of its values
attained : (n : ℕ) (f : ℕ → ℕ) → 0 < n → (k : ℕ) × (k < n) × (f k ≡ greatest n f)
unfolding greatest
attained zero f h = absurd (omega arith)
attained (suc zero) f h = (0, omega arith, omega arith)
attained (suc (suc n)) f h =
    let s = attained (suc n) f (omega arith) in
    by_order (greatest (suc n) f) (f (suc n))
    (λ l. (suc n, omega arith, omega arith))
    (λ l. (s.0, omega arith, s.2 ∙ omega arith))

quotient_le : (x y : ℕ) → x ≤ y → x / one ≤ y / one
quotient_le x y h = omega arith

-- the greatest product is the product of the greatest, under one rounding down
greatest-product :
    (n m : ℕ) (f g : ℕ → ℕ) → 0 < n → 0 < m →
    greatest n (λ j. greatest m (λ l. f j * g l / one)) ≡ greatest n f * greatest m g / one
greatest-product n m f g hn hm =
    le_antisymm
    (greatest-le n _ _ (λ j hj. greatest-le m _ _ (λ l hl. quotient_le (f j * g l) _ (mul-le-mul (greatest-ge n f j hj) (greatest-ge m g l hl)))))
    (let a = attained n f hn in
    let b = attained m g hm in
    let e : f a.0 * g b.0 / one ≡ greatest n f * greatest m g / one = ap₂ (λ (x y : ℕ). x * y / one) a.2 b.2 in
    rw (← e)
    (le_trans
    (greatest-ge m (λ l. f a.0 * g l / one) b.0 b.1)
    (greatest-ge n (λ j. greatest m (λ l. f j * g l / one)) a.0 a.1)))

-- so no square is walked for it
combined-from :
    (b c i x y : ℕ) (rates spreads : List ℕ) → x ≡ greatest_discount (rate_tree b) (stored b rates) i →
    y ≡ greatest_discount (rate_tree c) (stored c spreads) i → x * y / one ≡ greatest_of_row b c rates spreads i
unfolding greatest_combined combined greatest_discount rate_tree
combined-from b c i x y rates spreads ex ey =
    ap₂ (λ (p q : ℕ). p * q / one) ex ey
    ∙ sym (greatest-product (node_count b i) (node_count c i) (stored b rates i) (stored c spreads i) (count-positive b i) (count-positive c i))

lent-discounts : (n b : ℕ) (discounts : List ℕ) → Accepted n b discounts → Discounts-at-most 1100000000 (rate_tree b) (stored b discounts) n
unfolding rate_tree
lent-discounts n b discounts a i k hi hk = discount-within n b i hi discounts a k hk

row-most : (n b i x : ℕ) (discounts : List ℕ) → Accepted n b discounts → i < n → x ≡ greatest_discount (rate_tree b) (stored b discounts) i → x ≤ most_discount
unfolding greatest_discount rate_tree
row-most n b i x discounts a hi e = rw e (greatest-le (node_count b i) (stored b discounts i) most_discount (discount-within n b i hi discounts a))

bound-up : (x loss : ℕ) → (x + 999999999) / 1000000000 + loss ≡ round_up x one + loss
unfolding round_up
bound-up x loss = refl

module _ (n b c : ℕ) (rates spreads : List ℕ) (t : AcceptedTrees n b c rates spreads) where
  abbrev bound_at : ℕ → ℕ
  bound_at = pair_error_bound (rate_tree b) (rate_tree c) (stored b rates) (stored c spreads) n

  -- one row
  module _ (i x y late : ℕ) (hi : i < n) (ex : x ≡ greatest_discount (rate_tree b) (stored b rates) i)
      (ey : y ≡ greatest_discount (rate_tree c) (stored c spreads) i) (hl : late ≤ 1000000) where
    pub bound-product : x * y ≤ 1210000000000000000
    bound-product =
        mul-le-mul {n₁ = x} {m₁ = y} {n₂ = most_discount} {m₂ = most_discount} (row-most n b i x rates t.rate-tree hi ex)
        (row-most n c i y spreads t.spread-tree hi ey)

    pub bound-fits : x * y / 1000000000 * late ≤ 1210000000000000
    bound-fits =
        let q : x * y / 1000000000 ≤ 1210000000 = omega (arith, bound-product) in
        mul-le-mul {n₁ = x * y / 1000000000} {m₁ = late} {n₂ = 1210000000} {m₂ = 1000000} q hl

    pub bound-from :
        (x * y / 1000000000 * late + 999999999) / 1000000000 + 2 ≡ round_up (greatest_of_row b c rates spreads i * late) 1000000000 + roll_loss
    bound-from =
        ap (λ (g : ℕ). (g * late + 999999999) / 1000000000 + 2) (combined-from b c i x y rates spreads ex ey)
        ∙ bound-up (greatest_of_row b c rates spreads i * late) 2

  -- row after row
  pub bound-first : 0 ≡ bound_at n
  bound-first = sym (error-bound-last roll_loss (greatest_of_row b c rates spreads) n)

  pub bound-small : (i bound : ℕ) → i ≤ n → bound ≡ bound_at i → bound ≤ 1000000
  bound-small i bound h e =
      omega (
        arith,
        e,
        pair-bound-small (rate_tree b) (rate_tree c) (rate-tree-sound b t.rate-tree.limits.reversion-within-limit)
            (rate-tree-sound c t.spread-tree.limits.reversion-within-limit) (stored b rates) (stored c spreads) n (lent-discounts n b rates t.rate-tree)
            (lent-discounts n c spreads t.spread-tree) t.few i h,
      )

  pub bound-next :
      (i late next : ℕ) → 0 < i → i ≤ n → late ≡ bound_at i →
      next ≡ round_up (greatest_of_row b c rates spreads (i - 1) * late) 1000000000 + roll_loss → next ≡ bound_at (i - 1)
  bound-next i late next h hn el en =
      let e : i ≡ suc (i - 1) = omega arith in
      en
      ∙ ap (λ (x : ℕ). round_up (greatest_of_row b c rates spreads (i - 1) * x) 1000000000 + roll_loss) (el ∙ ap bound_at e)
      ∙ sym (error-bound-before roll_loss (greatest_of_row b c rates spreads) n (i - 1) (omega arith))

  pub bound-last : (i late : ℕ) → i ≡ 0 → late ≡ bound_at i → late ≡ pair_bound n b c rates spreads
  unfolding pair_bound
  bound-last i late e h = h ∙ ap bound_at e

-- ---- the rows that are marked

pub marked-last : (last : ℕ) (marks : List ℕ) → (marked last marks).last ≡ last
unfolding marked
marked-last last marks = refl

pub marked-listed : (last : ℕ) (marks : List ℕ) (i : ℕ) → eqb (values marks i) 1 ≡ (marked last marks).listed i
unfolding marked
marked-listed last marks i = refl

-- the option's first row, on those rows
pub options-marked :
    (n b c : ℕ) (rates spreads flows : List ℕ) → AcceptedPair n b c rates spreads flows → (side : Side) (strike last : ℕ) (marks : List ℕ)
    (bonds options : List ℕ) (flow : ℕ) → strike ≤ most_strike → flow ≡ flow_at flows last → Bonds n b c rates spreads flows last bonds →
    ((k : Pair) → Stands (rate_tree b) (rate_tree c) last k → square options k ≡ exercise side strike (square bonds k - flow)) →
    Options n b c rates spreads flows side strike (marked last marks) last options
unfolding marked
options-marked n b c rates spreads flows a side strike last marks bonds options flow hs ef s step =
    options-first n b c rates spreads flows a side strike (marked last marks) bonds options flow hs ef s step

-- a bond above its limit refuses the option too
pub both-over :
    (n b c : ℕ) (rates spreads flows : List ℕ) (side : Side) (strike : ℕ) (rows : Schedule) (to number : ℕ) (bonds options : List ℕ) →
    RolledBond n b c rates spreads flows to number bonds → (number ≡ 0 → ⊥) → RolledBoth n b c rates spreads flows side strike rows 0 number bonds options
both-over n b c rates spreads flows side strike rows to number bonds options r z =
    record {
      bonds-held = λ e. absurd (z e);
      options-held = λ e. absurd (z e);
      over = λ e. ((r.over z).0, omega (arith, (r.over z).1));
    }
