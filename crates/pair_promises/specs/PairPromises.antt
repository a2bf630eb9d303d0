-- What is promised of prices on a rate tree and a spread tree together (document 02, request (xiii)): what they are, row by row, demand 3 of document 01, and
-- a tree whose discounts are all one. Of the rate tree n, b and rates, of the spread tree m, c and spreads.
-- Assumes nothing.
use Rattle.std.specs.Prelude.{◌≡◌, true, false, List, ℕ, suc, ◌+◌, ◌-◌, ◌*◌, ◌/◌, ◌^◌, ◌≤◌, ◌<◌, max, length}
use Rattle.arithmetic.specs.Rounding.{one, nearest, round_up}
use Rattle.arithmetic.specs.Row.{values}
use Rattle.arithmetic.specs.Sum.{greatest}
use Rattle.tree.specs.Tree.{Tree, outgoing}
use Rattle.limits.specs.Limits.{most_reversion}
use Rattle.lattice.specs.Shape.{node_count, row_start}
use Rattle.lattice.specs.RateTree.{rate_tree}
use Rattle.lent_tree.specs.LentTree.{stored}
use Rattle.pricing_laws.specs.Pricer.{Pricer, Side, Schedule, exercise, bond, bare_bond, option}
use Rattle.pricing_laws.specs.Schedule.{numbered_side, dated_schedule, Contained}
use Rattle.price_laws.specs.Exact.{Accurate}
use Rattle.price_laws.specs.Prices.{flow_at, bond_price, dated_price}
use Rattle.pair_laws.specs.Pair.{Pair, at, pair_engine, exact_pair, greatest_combined, pair_error_bound}
use Rattle.pair_laws.specs.PairPrices.{exact_pair_bond, exact_pair_dated, pair_bond_price, pair_dated_price}
use Rattle.pair_promises.specs.Causes.{engine_on, PairCausePromises}

-- the denominator that one roll adds to an exact price
abbrev pub exact_scale : ℕ
exact_scale = 600000000 * 600000000 * one

-- ---- the definitions row by row, on any two trees

module _ (rates spreads : Tree) (rate_discount spreadDiscount : ℕ → ℕ → ℕ) where
  abbrev pub engine : Pricer Pair
  engine = pair_engine rates spreads rate_discount spreadDiscount

  abbrev pub exact : Pricer Pair
  exact = exact_pair rates spreads rate_discount spreadDiscount

  -- the discount of a pair: the product of the two / one, down
  abbrev pub discount_at : ℕ → Pair → ℕ
  discount_at i k = rate_discount i k.rate * spreadDiscount i k.spread / one

  -- along the rate side, divided by 600,000,000, nearest: at the rate node of k, for node b of the spreads
  abbrev pub along_rates : ℕ → (Pair → ℕ) → Pair → ℕ → ℕ
  along_rates i v k b = nearest (outgoing (rates.step i) (λ a. v (at a b)) k.rate) 600000000

  -- then along the spread side, divided by 600,000,000, nearest; then discounted, nearest
  abbrev pub rolled_back : ℕ → (Pair → ℕ) → Pair → ℕ
  rolled_back i v k = nearest (nearest (outgoing (spreads.step i) (along_rates i v k) k.spread) 600000000 * discount_at i k) one

  -- independent branches in exact fractions
  abbrev pub exactly_back : ℕ → (Pair → ℕ) → Pair → ℕ
  exactly_back i v k = discount_at i k * outgoing (spreads.step i) (λ b. outgoing (rates.step i) (λ a. v (at a b)) k.rate) k.spread

  pub record PairRows (flow : ℕ → ℕ) (n : ℕ) (side : Side) (strike : ℕ) (rows : Schedule) : Type 0 where
    pub bond-last : (k : Pair) → bond engine flow n n k ≡ flow n
    pub bond-before : (i : ℕ) → i < n → (k : Pair) → bond engine flow n i k ≡ rolled_back i (bond engine flow n (suc i)) k + flow i
    pub bare-before : (i : ℕ) → i < n → (k : Pair) → bare_bond engine flow n i k ≡ rolled_back i (bond engine flow n (suc i)) k
    pub option-last : (k : Pair) →
        option engine flow n side strike rows rows.last k ≡ exercise side strike (bare_bond engine flow n rows.last k)
    pub listed-before : (i : ℕ) → i < rows.last → rows.listed i ≡ true → (k : Pair) →
        option engine flow n side strike rows i k
        ≡ max (rolled_back i (option engine flow n side strike rows (suc i)) k) (exercise side strike (bare_bond engine flow n i k))
    pub unlisted-before : (i : ℕ) → i < rows.last → rows.listed i ≡ false → (k : Pair) →
        option engine flow n side strike rows i k ≡ rolled_back i (option engine flow n side strike rows (suc i)) k

  -- the exact pricer, row i held times (600,000,000 × 600,000,000 × one)^(n − i): it rounds nothing but the combined discounts
  pub record ExactPairRows (flow : ℕ → ℕ) (n : ℕ) (side : Side) (strike : ℕ) (rows : Schedule) : Type 0 where
    pub bond-last : (k : Pair) → bond exact flow n n k ≡ flow n
    pub bond-before : (i : ℕ) → i < n → (k : Pair) →
        bond exact flow n i k ≡ exactly_back i (bond exact flow n (suc i)) k + flow i * exact_scale ^ (n - i)
    pub bare-before : (i : ℕ) → i < n → (k : Pair) → bare_bond exact flow n i k ≡ exactly_back i (bond exact flow n (suc i)) k
    pub option-last : (k : Pair) →
        option exact flow n side strike rows rows.last k
        ≡ exercise side (strike * exact_scale ^ (n - rows.last)) (bare_bond exact flow n rows.last k)
    pub listed-before : (i : ℕ) → i < rows.last → rows.listed i ≡ true → (k : Pair) →
        option exact flow n side strike rows i k
        ≡ max (exactly_back i (option exact flow n side strike rows (suc i)) k)
        (exercise side (strike * exact_scale ^ (n - i)) (bare_bond exact flow n i k))
    pub unlisted-before : (i : ℕ) → i < rows.last → rows.listed i ≡ false → (k : Pair) →
        option exact flow n side strike rows i k ≡ exactly_back i (option exact flow n side strike rows (suc i)) k

  -- the error bound, with G(i) the greatest combined discount of row i: 0 at row n, then G × later bound / one, up, plus 2
  pub record PairBoundRows (n : ℕ) : Type 0 where
    pub greatest-of-row : (i : ℕ) →
        greatest_combined rates spreads rate_discount spreadDiscount i
        ≡ greatest (rates.nodes i) (λ j. greatest (spreads.nodes i) (λ l. discount_at i (at j l)))
    pub last : pair_error_bound rates spreads rate_discount spreadDiscount n n ≡ 0
    pub before : (i : ℕ) → i < n →
        pair_error_bound rates spreads rate_discount spreadDiscount n i
        ≡ round_up (greatest_combined rates spreads rate_discount spreadDiscount i * pair_error_bound rates spreads rate_discount spreadDiscount n (suc i)) one + 2

-- what is answered, and what it is held against, are these at row 0 of the two lent trees
abbrev pub exact_on : ℕ → ℕ → List ℕ → List ℕ → Pricer Pair
exact_on b c rates spreads = exact_pair (rate_tree b) (rate_tree c) (stored b rates) (stored c spreads)

abbrev pub bound_on : ℕ → ℕ → ℕ → List ℕ → List ℕ → ℕ
bound_on n b c rates spreads = pair_error_bound (rate_tree b) (rate_tree c) (stored b rates) (stored c spreads) n 0

pub record PricedByPairs (n b : ℕ) (rates : List ℕ) (m c : ℕ) (spreads flows : List ℕ) : Type 0 where
  pub bond-is : (pair_bond_price n b rates m c spreads flows).number ≡ 0 →
      (pair_bond_price n b rates m c spreads flows).value ≡ bond (engine_on b c rates spreads) (flow_at flows) n 0 (at 0 0)
  pub bond-bound : (pair_bond_price n b rates m c spreads flows).number ≡ 0 →
      (pair_bond_price n b rates m c spreads flows).bound ≡ bound_on n b c rates spreads
  pub dated-is : (side : ℕ) (dates : List ℕ) (strike : ℕ) → (pair_dated_price n b rates m c spreads flows side dates strike).number ≡ 0 →
      (pair_dated_price n b rates m c spreads flows side dates strike).value
      ≡ option (engine_on b c rates spreads) (flow_at flows) n (numbered_side side) strike (dated_schedule dates) 0 (at 0 0)
  pub dated-bound : (side : ℕ) (dates : List ℕ) (strike : ℕ) → (pair_dated_price n b rates m c spreads flows side dates strike).number ≡ 0 →
      (pair_dated_price n b rates m c spreads flows side dates strike).bound ≡ bound_on n b c rates spreads
  pub exact-bond-is : exact_pair_bond n b c rates spreads flows ≡ bond (exact_on b c rates spreads) (flow_at flows) n 0 (at 0 0)
  pub exact-dated-is : (side : ℕ) (dates : List ℕ) (strike : ℕ) →
      exact_pair_dated n b c rates spreads flows side dates strike
      ≡ option (exact_on b c rates spreads) (flow_at flows) n (numbered_side side) strike (dated_schedule dates) 0 (at 0 0)

-- ---- what is promised

-- no combined discount is above one
abbrev pub NoPairAboveOne : ℕ → ℕ → ℕ → List ℕ → List ℕ → Type 0
NoPairAboveOne n b c rates spreads =
    (i j l : ℕ) → i < n → j < node_count b i → l < node_count c i → stored b rates i j * stored c spreads i l / one ≤ one

-- a tree of n steps of which every needed discount is one, whatever its reversion and whatever stands past them
pub record Ones (n b : ℕ) (discounts : List ℕ) : Type 0 where
  pub reversion : b ≤ most_reversion
  pub room : row_start b n ≤ length discounts
  pub ones : (k : ℕ) → k < row_start b n → values discounts k ≡ one

pub record PairPromises : Type 0 where
  -- engine, exact pricer and error bound row by row, on any two trees, and the entries' answers by them
  pub pair-rows : (rates spreads : Tree) (rate_discount spreadDiscount : ℕ → ℕ → ℕ) (flow : ℕ → ℕ) (n : ℕ) (side : Side) (strike : ℕ) (rows : Schedule) →
      PairRows rates spreads rate_discount spreadDiscount flow n side strike rows
  pub exact-rows : (rates spreads : Tree) (rate_discount spreadDiscount : ℕ → ℕ → ℕ) (flow : ℕ → ℕ) (n : ℕ) (side : Side) (strike : ℕ) (rows : Schedule) →
      ExactPairRows rates spreads rate_discount spreadDiscount flow n side strike rows
  pub bound-rows : (rates spreads : Tree) (rate_discount spreadDiscount : ℕ → ℕ → ℕ) (n : ℕ) → PairBoundRows rates spreads rate_discount spreadDiscount n
  pub priced-by-pairs : (n b : ℕ) (rates : List ℕ) (m c : ℕ) (spreads flows : List ℕ) → PricedByPairs n b rates m c spreads flows
  -- the number of every answer
  pub causes : PairCausePromises
  -- prices that are not refused stand within their error bound of the exact price
  pub bond-accurate : (n b : ℕ) (rates : List ℕ) (m c : ℕ) (spreads flows : List ℕ) → (pair_bond_price n b rates m c spreads flows).number ≡ 0 →
      Accurate (exact_scale ^ n) (pair_bond_price n b rates m c spreads flows) (exact_pair_bond n b c rates spreads flows)
  pub dated-accurate : (n b : ℕ) (rates : List ℕ) (m c : ℕ) (spreads flows : List ℕ) (side : ℕ) (dates : List ℕ) (strike : ℕ) →
      (pair_dated_price n b rates m c spreads flows side dates strike).number ≡ 0 →
      Accurate (exact_scale ^ n) (pair_dated_price n b rates m c spreads flows side dates strike)
      (exact_pair_dated n b c rates spreads flows side dates strike)
  -- at most 2 billionths a step
  pub bond-a-step : (n b : ℕ) (rates : List ℕ) (m c : ℕ) (spreads flows : List ℕ) → NoPairAboveOne n b c rates spreads →
      (pair_bond_price n b rates m c spreads flows).bound ≤ 2 * n
  pub dated-a-step : (n b : ℕ) (rates : List ℕ) (m c : ℕ) (spreads flows : List ℕ) (side : ℕ) (dates : List ℕ) (strike : ℕ) →
      NoPairAboveOne n b c rates spreads → (pair_dated_price n b rates m c spreads flows side dates strike).bound ≤ 2 * n
  -- with a spread tree of ones the whole answer, refusal or price with its error bound, is that of the entry for the rate tree alone
  pub bond-of-rates : (n b : ℕ) (rates : List ℕ) (c : ℕ) (spreads flows : List ℕ) → n ≤ 20 → Ones n c spreads →
      pair_bond_price n b rates n c spreads flows ≡ bond_price n b rates flows
  pub dated-of-rates : (n b : ℕ) (rates : List ℕ) (c : ℕ) (spreads flows : List ℕ) → n ≤ 20 → Ones n c spreads →
      (side : ℕ) (dates : List ℕ) (strike : ℕ) →
      pair_dated_price n b rates n c spreads flows side dates strike ≡ dated_price n b rates flows side dates strike
  -- with a rate tree of ones, that of the entry for the spread tree alone
  pub bond-of-spreads : (n b : ℕ) (rates : List ℕ) (c : ℕ) (spreads flows : List ℕ) → n ≤ 20 → Ones n b rates →
      pair_bond_price n b rates n c spreads flows ≡ bond_price n c spreads flows
  pub dated-of-spreads : (n b : ℕ) (rates : List ℕ) (c : ℕ) (spreads flows : List ℕ) → n ≤ 20 → Ones n b rates →
      (side : ℕ) (dates : List ℕ) (strike : ℕ) →
      pair_dated_price n b rates n c spreads flows side dates strike ≡ dated_price n c spreads flows side dates strike
  -- more rights cost no less (request (v)) on two trees too, where both are priced
  pub dates-no-less : (n b : ℕ) (rates : List ℕ) (m c : ℕ) (spreads flows : List ℕ) (side strike : ℕ) (few many : List ℕ) →
      (pair_dated_price n b rates m c spreads flows side few strike).number ≡ 0 →
      (pair_dated_price n b rates m c spreads flows side many strike).number ≡ 0 → Contained few many →
      (pair_dated_price n b rates m c spreads flows side few strike).value ≤ (pair_dated_price n b rates m c spreads flows side many strike).value
