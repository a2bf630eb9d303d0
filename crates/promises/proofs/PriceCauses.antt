-- The causes of error bounds, prices and weighing are those of the table.
-- Assumes nothing.
use mathlib.Core.Path.{◌≡◌, refl, sym, ◌∙◌, ap, ap₂}
use mathlib.Core.Bool.{Bool, true, false, not, cond, ◌&&◌, and_assoc}
use mathlib.Core.List.{List, [], ◌∷◌, ◌++◌}
use Prim.Native.Nat.{ℕ, ◌+◌, ◌-◌, ◌*◌, ◌/◌, ◌%◌, ◌≤◌}
use native.Mathlib.Omega.{arith}
use borrow.Author.Tests.{leb-true, le-leb}
use lib.Dec.{eqb, leb, ltb}
use lib.ListN.{length}
use Rattle.arithmetic.specs.Answers.{refused, answered, lowest_cause, first_cause}
use Rattle.arithmetic.specs.Rounding.{one}
use Rattle.arithmetic.specs.Row.{values, each, between, sum_of}
use Rattle.arithmetic.specs.Sum.{sum}
use Rattle.arithmetic.proofs.CauseLaws.{lowest-alone}
use Rattle.arithmetic.proofs.BetweenLaws.{and_right}
use Rattle.arithmetic.proofs.RowLaws.{each-cong}
use Rattle.limits.specs.Limits.{is_steps, is_reversion, shape_cause, limit_cause}
use Rattle.lattice.specs.Shape.{node_count, row_start, discounts_needed}
use Rattle.lattice.specs.Entries.{node_count_answer}
use Rattle.lattice.specs.RateTree.{rate_tree}
use Rattle.lattice.proofs.TreeEntries.{row-value}
use Rattle.lent_tree.specs.LentTree.{accepted_discounts, discounts_cause, stored}
use Rattle.fit_laws.specs.StatePrices.{state_price_error_bound}
use Rattle.state_price_bound.specs.ErrorBound.{row_cause, bound_cause, state_price_error_bound_answer}
use Rattle.price_causes.specs.Causes.{flows_cause, option_cause, terms_cause}
use Rattle.price_bound.specs.PriceBound.{tree_error_bound, price_error_bound_answer, tree_bounds_answer}
use Rattle.price_bound.proofs.BoundLaws.{bounds-number}
use Rattle.pricing_laws.specs.Peak.{greatest_value}
use Rattle.pricing_laws.specs.Pricer.{Side, Schedule}
use Rattle.pricing_laws.specs.Schedule.{rising, last_date, dates_cause, side_of, schedule_of, numbered_side, dated_schedule}
use Rattle.price_laws.specs.Prices.{tree_cause, bond_value, bond_peak, bond_price, option_value, option_peak, option_limit, option_price, dated_cause, dated_price}
use Rattle.valuation_laws.specs.Valuation.{value_by_state_prices}
use Rattle.valuation.specs.Entries.{value_of, fit_aRow, value_by_state_prices_answer, payoffs_cause, valuation_cause, valuation_error_bound_answer}
use Rattle.promises.specs.Causes.{Cause, cause, first_of, lent_causes, flow_causes, discounts_accepted, flows_accepted}
use Rattle.promises.specs.Causes.{option_accepted, terms_accepted, dates_accepted, values_accepted, option_over, payoffs_accepted}
use Rattle.promises.proofs.CauseTables.{ltb-not, seven, numbered, first-append, number_of, number-priced, larger-above, greatest-above, peak-above}

-- a cause that applies where a test fails
turned : (k : ℕ) (t : Bool) → cond (not t) k 0 ≡ cond t 0 k
turned k true = refl
turned k false = refl

-- ---- lent discounts: steps, reversion, length, discounts, and a length beside them

lent : Bool → Bool → Bool → Bool → ℕ
lent s r l a = cond (eqb (cond s (cond r 0 4) 3) 0) (cond l (cond a 0 9) 6) (cond s (cond r 0 4) 3)

beside : (s r l a m : Bool) →
    lowest_cause (lent s r l a) (cond m 0 6) ≡ cond (not s) 3 (cond (not r) 4 (cond (not (l && m)) 6 (cond (not a) 9 0)))
unfolding lent lowest_cause
beside false r l a true = refl
beside false r l a false = refl
beside true false l a true = refl
beside true false l a false = refl
beside true true false a true = refl
beside true true false a false = refl
beside true true true false true = refl
beside true true true false false = refl
beside true true true true true = refl
beside true true true true false = refl

lent_is : (n b : ℕ) (discounts : List ℕ) →
    discounts_cause n b discounts ≡ lent (is_steps n) (is_reversion b) (leb (row_start b n) (length discounts)) (discounts_accepted n b discounts)
unfolding discounts_cause shape_cause accepted_discounts discounts_needed lent
lent_is n b discounts = refl

module _ (n b : ℕ) (discounts : List ℕ) where
  lent-first : (m : Bool) → lowest_cause (discounts_cause n b discounts) (cond m 0 6) ≡ first_of (lent_causes n b discounts m [])
  unfolding first_of
  lent-first m = rw (lent_is n b discounts) (beside (is_steps n) (is_reversion b) _ (discounts_accepted n b discounts) m)

  lent-alone : discounts_cause n b discounts ≡ first_of (lent_causes n b discounts true [])
  lent-alone = lowest-alone (discounts_cause n b discounts) 0 refl ∙ lent-first true

  pub price-bound-causes : (price_error_bound_answer n b discounts).number ≡ first_of (lent_causes n b discounts true [])
  unfolding price_error_bound_answer
  price-bound-causes = number_of (discounts_cause n b discounts) (tree_error_bound n b discounts) ∙ lent-alone

  pub tree-bounds-causes : (tree_bounds_answer n b discounts).number ≡ first_of (lent_causes n b discounts true [])
  tree-bounds-causes = bounds-number n b discounts ∙ lent-alone

  -- a row past row n
  row_first : (i : ℕ) → bound_cause n b discounts i ≡ first_of (lent_causes n b discounts (leb i n) [])
  unfolding bound_cause row_cause
  row_first i = rw (ltb-not n i, turned 6 (leb i n)) (lent-first (leb i n))

  pub state-price-bound-causes : (i : ℕ) → (state_price_error_bound_answer n b discounts i).number ≡ first_of (lent_causes n b discounts (leb i n) [])
  unfolding state_price_error_bound_answer
  state-price-bound-causes i =
      number_of (bound_cause n b discounts i) (state_price_error_bound (rate_tree b) (stored b discounts) i) ∙ row_first i

-- ---- flows

flowing : (s r l a m f : Bool) →
    lowest_cause (lent s r l a) (cond m (cond f 0 10) 6)
    ≡ cond (not s) 3 (cond (not r) 4 (cond (not (l && m)) 6 (cond (not a) 9 (cond (not f) 10 0))))
unfolding lent lowest_cause
flowing false r l a true true = refl
flowing false r l a true false = refl
flowing false r l a false f = refl
flowing true false l a true true = refl
flowing true false l a true false = refl
flowing true false l a false f = refl
flowing true true false a true true = refl
flowing true true false a true false = refl
flowing true true false a false f = refl
flowing true true true false true true = refl
flowing true true true false true false = refl
flowing true true true false false f = refl
flowing true true true true true true = refl
flowing true true true true true false = refl
flowing true true true true false f = refl

-- an option's own causes
kind-cause : (n kind expiry strike : ℕ) → option_cause n kind expiry strike ≡ first_of (cause 11 (not (option_accepted n kind expiry strike)) ∷ [])
unfolding option_cause first_of
kind-cause n kind expiry strike = sym (turned 11 (option_accepted n kind expiry strike))

pub list-cause : (n side : ℕ) (dates : List ℕ) (strike : ℕ) →
    dated_cause n side dates strike ≡ first_of (cause 11 (not (terms_accepted side strike)) ∷ cause 13 (not (dates_accepted n dates)) ∷ [])
unfolding dated_cause terms_cause dates_cause rising lowest_cause first_of
list-cause n side dates strike =
    rw (← and_assoc (ltb 0 (length dates)) (each (length dates - 1) (λ k. ltb (values dates k) (values dates (k + 1)))) (ltb (last_date dates) n))
    (by_tests (terms_accepted side strike) (dates_accepted n dates))
  where
    by_tests : (t u : Bool) → lowest_cause (cond t 0 11) (cond u 0 13) ≡ cond (not t) 11 (cond (not u) 13 0)
    by_tests true true = refl
    by_tests true false = refl
    by_tests false true = refl
    by_tests false false = refl

module _ (n b : ℕ) (discounts flows : List ℕ) where
  pub flows-alike : each (length flows) (between 0 2000000000 (values flows)) ≡ flows_accepted flows
  flows-alike = each-cong (length flows) _ _ (λ k h. rw (le-leb 0 (values flows k) (omega arith)))

  flows-first : tree_cause n b discounts flows ≡ first_of (flow_causes n b discounts flows [])
  unfolding tree_cause flows_cause first_of
  flows-first =
      rw (lent_is n b discounts, flows-alike)
      (flowing (is_steps n) (is_reversion b) _ (discounts_accepted n b discounts) (eqb (length flows) n) (flows_accepted flows))

  bond-above : ltb 8000000000 (bond_peak n b discounts flows) ≡ not (values_accepted b n (bond_value n b discounts flows))
  unfolding bond_peak greatest_value rate_tree
  bond-above = peak-above (node_count b) (bond_value n b discounts flows) n 8000000000

  bond-limit : limit_cause (bond_peak n b discounts flows) ≡ first_of (cause 12 (not (values_accepted b n (bond_value n b discounts flows))) ∷ [])
  unfolding limit_cause first_of
  bond-limit = rw bond-above refl

  pub bond-causes :
      (bond_price n b discounts flows).number
      ≡ first_of (flow_causes n b discounts flows (cause 12 (not (values_accepted b n (bond_value n b discounts flows))) ∷ []))
  unfolding bond_price
  bond-causes =
      number-priced _ (bond_value n b discounts flows 0 0) (tree_error_bound n b discounts)
      ∙ ap₂ first_cause flows-first bond-limit
      ∙ first-append (flow_causes n b discounts flows []) (cause 12 (not (values_accepted b n (bond_value n b discounts flows))) ∷ []) refl

  -- ---- an option, whose own causes are some list

  module _ (side : Side) (strike : ℕ) (rows : Schedule) where
    option-above : ltb 8000000000 (option_peak n b discounts flows side strike rows)
        ≡ not (values_accepted b rows.last (option_value n b discounts flows side strike rows))
    unfolding option_peak greatest_value rate_tree
    option-above = peak-above (node_count b) (option_value n b discounts flows side strike rows) rows.last 8000000000

    option-limit : option_limit n b discounts flows side strike rows ≡ first_of (cause 12 (option_over n b discounts flows side strike rows) ∷ [])
    unfolding option_limit limit_cause first_of
    option-limit =
        ap (λ (t : Bool). cond t 12 0)
        (larger-above (bond_peak n b discounts flows) (option_peak n b discounts flows side strike rows) 8000000000
        (values_accepted b n (bond_value n b discounts flows)) (values_accepted b rows.last (option_value n b discounts flows side strike rows))
        bond-above option-above)

    scheduled-causes : (own : ℕ) (causes : List Cause) → own ≡ first_of causes → numbered causes ≡ true →
        first_cause (tree_cause n b discounts flows) (first_cause own (option_limit n b discounts flows side strike rows))
        ≡ first_of (flow_causes n b discounts flows (causes ++ (cause 12 (option_over n b discounts flows side strike rows) ∷ [])))
    scheduled-causes own causes e h =
        ap₂ first_cause flows-first
        (ap₂ first_cause e option-limit ∙ first-append causes (cause 12 (option_over n b discounts flows side strike rows) ∷ []) h)
        ∙ first-append (flow_causes n b discounts flows []) (causes ++ (cause 12 (option_over n b discounts flows side strike rows) ∷ [])) refl

  pub option-causes : (kind expiry strike : ℕ) →
      (option_price n b discounts flows kind expiry strike).number
      ≡ first_of (flow_causes n b discounts flows (cause 11 (not (option_accepted n kind expiry strike))
      ∷ cause 12 (option_over n b discounts flows (side_of kind) strike (schedule_of kind expiry)) ∷ []))
  unfolding option_price
  option-causes kind expiry strike =
      number-priced _ (option_value n b discounts flows (side_of kind) strike (schedule_of kind expiry) 0 0) (tree_error_bound n b discounts)
      ∙ scheduled-causes (side_of kind) strike (schedule_of kind expiry) (option_cause n kind expiry strike)
      (cause 11 (not (option_accepted n kind expiry strike)) ∷ []) (kind-cause n kind expiry strike) refl

  pub dated-causes : (side : ℕ) (dates : List ℕ) (strike : ℕ) →
      (dated_price n b discounts flows side dates strike).number
      ≡ first_of (flow_causes n b discounts flows (cause 11 (not (terms_accepted side strike)) ∷ cause 13 (not (dates_accepted n dates))
      ∷ cause 12 (option_over n b discounts flows (numbered_side side) strike (dated_schedule dates)) ∷ []))
  unfolding dated_price
  dated-causes side dates strike =
      number-priced _ (option_value n b discounts flows (numbered_side side) strike (dated_schedule dates) 0 0) (tree_error_bound n b discounts)
      ∙ scheduled-causes (numbered_side side) strike (dated_schedule dates) (dated_cause n side dates strike)
      (cause 11 (not (terms_accepted side strike)) ∷ cause 13 (not (dates_accepted n dates)) ∷ []) (list-cause n side dates strike) refl

-- ---- weighing

pub weighing-causes : (prices payoffs : List ℕ) →
    (value_by_state_prices_answer prices payoffs).number
    ≡ first_of (cause 6 (not (eqb (length prices) (length payoffs) && not (eqb (length prices % 2) 0) && leb (length prices) 121))
    ∷ cause 12 (not (payoffs_accepted payoffs)) ∷ cause 12 (ltb 2000000100 (sum_of prices))
    ∷ cause 12 (ltb 8000000000 (sum (length prices) (λ k. values prices k * values payoffs k) / one)) ∷ [])
unfolding value_by_state_prices_answer fit_aRow value_of value_by_state_prices first_of
weighing-causes prices payoffs =
    rw (greatest-above (length payoffs) (values payoffs) 8000000000)
    (by_tests (not (eqb (length prices) (length payoffs) && not (eqb (length prices % 2) 0) && leb (length prices) 121))
    (not (payoffs_accepted payoffs)) (ltb 2000000100 (sum_of prices)) (ltb 8000000000 value))
  where
    value : ℕ
    value = sum (length prices) (λ k. values prices k * values payoffs k) / one

    by_tests : (t u v w : Bool) →
        (cond t (refused 6) (cond u (refused 12) (cond v (refused 12) (cond w (refused 12) (answered value))))).number
        ≡ cond t 6 (cond u 12 (cond v 12 (cond w 12 0)))
    by_tests true u v w = refl
    by_tests false true v w = refl
    by_tests false false true w = refl
    by_tests false false false true = refl
    by_tests false false false false = refl

-- the definition's combination of steps, reversion, length, discounts, row, payoffs and their limit, and the table's
weighed : Bool → Bool → Bool → Bool → Bool → Bool → Bool → ℕ
weighed s r l a w e g = lowest_cause (lowest_cause (lent s r l a) (cond w 0 6)) (lowest_cause (cond e 0 6) (cond (not g) 12 0))

tabled : Bool → Bool → Bool → Bool → Bool → Bool → Bool → ℕ
tabled s r l a w e g = cond (not s) 3 (cond (not r) 4 (cond (not (l && (w && e))) 6 (cond (not a) 9 (cond (not g) 12 0))))

weighed-alike : (s r l a w e g : Bool) → weighed s r l a w e g ≡ tabled s r l a w e g
unfolding weighed tabled lent lowest_cause
weighed-alike = seven weighed tabled refl

-- nodes are counted only where the tree has the row
count-tried : (s r l a w e g d : Bool) → (s ≡ true → r ≡ true → w ≡ true → e ≡ d) → tabled s r l a w e g ≡ tabled s r l a w d g
unfolding tabled
count-tried false r l a w e g d h = refl
count-tried true false l a w e g d h = refl
count-tried true true l a false e g d h = refl
count-tried true true l a true e g d h = ap (λ (t : Bool). cond (not (l && t)) 6 (cond (not a) 9 (cond (not g) 12 0))) (h refl refl refl)

module _ (n b : ℕ) (discounts : List ℕ) (i : ℕ) (payoffs : List ℕ) where
  counted : is_steps n ≡ true → is_reversion b ≡ true → leb i n ≡ true →
      eqb (length payoffs) (node_count_answer b i).value ≡ eqb (length payoffs) (node_count b i)
  counted es er ei =
      let most : n ≤ 60 = leb-true n 60 (and_right (leb 1 n) (leb n 60) es) in
      let least : i ≤ n = leb-true i n ei in
      ap (eqb (length payoffs)) (row-value b i (node_count b i) (node_count_answer b i) refl (leb-true b 6000 er) (omega arith))

  weighed-is : valuation_cause n b discounts i payoffs
      ≡ weighed (is_steps n) (is_reversion b) (leb (row_start b n) (length discounts)) (discounts_accepted n b discounts) (leb i n)
      (eqb (length payoffs) (node_count_answer b i).value) (payoffs_accepted payoffs)
  unfolding valuation_cause bound_cause row_cause payoffs_cause limit_cause weighed
  weighed-is =
      rw (lent_is n b discounts, ltb-not n i, turned 6 (leb i n), greatest-above (length payoffs) (values payoffs) 8000000000) refl

  pub weighing-bound-causes :
      (valuation_error_bound_answer n b discounts i payoffs).number
      ≡ first_of (lent_causes n b discounts (leb i n && eqb (length payoffs) (node_count b i)) (cause 12 (not (payoffs_accepted payoffs)) ∷ []))
  unfolding valuation_error_bound_answer first_of tabled
  weighing-bound-causes =
      number_of (valuation_cause n b discounts i payoffs) _ ∙ weighed-is
      ∙ weighed-alike (is_steps n) (is_reversion b) (leb (row_start b n) (length discounts)) (discounts_accepted n b discounts) (leb i n)
      (eqb (length payoffs) (node_count_answer b i).value) (payoffs_accepted payoffs)
      ∙ count-tried (is_steps n) (is_reversion b) (leb (row_start b n) (length discounts)) (discounts_accepted n b discounts) (leb i n) _
      (payoffs_accepted payoffs) _ counted
