-- Which entry gives which number (document 01, When the engine declines; document 02, requests (i) to (iii), (ix) and (x)): the causes of each entry in
-- the order in which they are tried, the lowest number first, but for 13, which is tried before 12.
-- Assumes nothing.
use Rattle.std.specs.Prelude.{◌≡◌, Bool, true, not, cond, ◌&&◌, ◌||◌, List, [], ◌∷◌, ℕ, suc, ◌+◌, ◌-◌, ◌*◌, ◌/◌, ◌%◌, eqb, leb, ltb, Float, ℤ, nat_abs, length}
use Rattle.arithmetic.specs.Rounding.{one}
use Rattle.arithmetic.specs.Row.{values, each, sum_of}
use Rattle.arithmetic.specs.Sum.{sum}
use Rattle.arithmetic.specs.Frequency.{is_frequency}
use Rattle.limits.specs.Limits.{is_steps, is_reversion, is_discount}
use Rattle.lattice.specs.Shape.{half_width, node_count, row_start}
use Rattle.lattice.specs.Entries.{half_width_answer, node_count_answer, row_start_answer, discounts_needed_answer, state_prices_needed_answer, branch_answer}
use Rattle.figure.specs.Figure.{beyond, billionths_of, figure_of}
use Rattle.quotes.specs.declared.Point.{Point}
use Rattle.quotes.specs.Quotes.{factor_discount, rate_discount, yield_discount, lone_answer}
use Rattle.curve.specs.Curve.{place_at, answer_at, curve_number}
use Rattle.reversion.specs.Reversion.{is_version, working_reversion, working_answer, ratio_answer}
use Rattle.spacing.specs.Spacing.{spacing, spacing_answer, version_spacing, version_spacing_answer}
use Rattle.factor.specs.Factor.{node_answer}
use Rattle.step_rate.specs.StepRate.{rate_answer}
use Rattle.continuous.specs.Continuous.{continuous_answer}
use Rattle.continuous_rate.specs.ContinuousRate.{continuous_rate_answer}
use Rattle.fitted_laws.specs.Entry.{fit_number, fit_discount, version_number}
use Rattle.state_price_bound.specs.ErrorBound.{state_price_error_bound_answer}
use Rattle.price_bound.specs.PriceBound.{price_error_bound_answer, tree_bounds_answer}
use Rattle.pricing_laws.specs.Schedule.{side_of, schedule_of, numbered_side, dated_schedule}
use Rattle.pricing_laws.specs.Pricer.{Side, Schedule}
use Rattle.price_laws.specs.Prices.{bond_value, option_value, bond_price, option_price, dated_price}
use Rattle.price_laws.specs.Strips.{option_strip, kind_strip}
use Rattle.valuation.specs.Entries.{value_by_state_prices_answer, valuation_error_bound_answer}

-- a cause: its number, and whether it applies
pub record Cause : Type 0 where
  pub number : ℕ
  pub applies : Bool

abbrev pub cause : ℕ → Bool → Cause
cause number applies = record { number = number; applies = applies }

-- the number of the first cause that applies; 0 where none does
unfoldable pub first_of : List Cause → ℕ
first_of [] = 0
first_of (c ∷ later) = cond c.applies c.number (first_of later)

-- ---- what the causes are about

-- 6: as many rows, kinds and figures as steps, each row in its place
abbrev pub quotes_placed : ℕ → List ℕ → List ℕ → List Float → Bool
quotes_placed n rows kinds figures = eqb (length rows) n && eqb (length kinds) n && eqb (length figures) n && each n (place_at rows)

-- 7: every quote has a discount
abbrev pub quotes_converted : ℕ → ℕ → List ℕ → List Float → Bool
quotes_converted f n kinds figures = each n (λ k. eqb (answer_at f kinds figures k).number 0)

-- 7: kinds 5, 6 and 9, and P of each before its range is judged
abbrev pub is_kind : ℕ → Bool
is_kind kind = eqb kind 5 || eqb kind 6 || eqb kind 9

abbrev pub kind_discount : ℕ → ℕ → ℕ → ℤ → ℕ
kind_discount f kind row amount =
    cond (eqb kind 5) (factor_discount amount) (cond (eqb kind 6) (rate_discount f row amount) (yield_discount f row amount))

-- 7: the range of P
abbrev pub quote_in_range : ℕ → Bool
quote_in_range p = leb 100000000 p && leb p 2000000000

-- a test of every node of rows 0 to n − 1
abbrev pub every_node : ℕ → ℕ → (ℕ → ℕ → Bool) → Bool
every_node b n test = each n (λ i. each (node_count b i) (test i))

-- 9: every lent discount of the tree is accepted
abbrev pub discounts_accepted : ℕ → ℕ → List ℕ → Bool
discounts_accepted n b discounts = each (row_start b n) (λ k. is_discount (values discounts k))

-- 10: no flow above 2 × one
abbrev pub flows_accepted : List ℕ → Bool
flows_accepted flows = each (length flows) (λ k. leb (values flows k) 2000000000)

-- 11: kind, expiry and strike; side and strike of a dated option
abbrev pub option_accepted : ℕ → ℕ → ℕ → ℕ → Bool
option_accepted n kind expiry strike = leb 1 kind && leb kind 4 && ltb expiry n && leb strike 4000000000

abbrev pub terms_accepted : ℕ → ℕ → Bool
terms_accepted side strike = leb 1 side && leb side 2 && leb strike 4000000000

-- 13: a list with a row, strictly rising, that ends before row n
abbrev pub dates_accepted : ℕ → List ℕ → Bool
dates_accepted n dates =
    ltb 0 (length dates) && each (length dates - 1) (λ k. ltb (values dates k) (values dates (k + 1))) && ltb (values dates (length dates - 1)) n

-- 12: no value of rows 0 to n, or of rows 0 to an option's last, above 8 × one
abbrev pub values_accepted : ℕ → ℕ → (ℕ → ℕ → ℕ) → Bool
values_accepted b n value = every_node b (suc n) (λ i k. leb (value i k) 8000000000)

-- 12: no payoff above 8 × one
abbrev pub payoffs_accepted : List ℕ → Bool
payoffs_accepted payoffs = each (length payoffs) (λ k. leb (values payoffs k) 8000000000)

-- ---- the causes that several entries share

abbrev pub tree_causes : ℕ → ℕ → List Cause → List Cause
tree_causes n b later = cause 3 (not (is_steps n)) ∷ cause 4 (not (is_reversion b)) ∷ later

-- about lent discounts, where so much else must be long enough too
abbrev pub lent_causes : ℕ → ℕ → List ℕ → Bool → List Cause → List Cause
lent_causes n b discounts long later =
    tree_causes n b (cause 6 (not (leb (row_start b n) (length discounts) && long)) ∷ cause 9 (not (discounts_accepted n b discounts)) ∷ later)

-- about lent discounts and flows
abbrev pub flow_causes : ℕ → ℕ → List ℕ → List ℕ → List Cause → List Cause
flow_causes n b discounts flows later = lent_causes n b discounts (eqb (length flows) n) (cause 10 (not (flows_accepted flows)) ∷ later)

-- 12 of an option: a value of its bond, or of itself
abbrev pub option_over : ℕ → ℕ → List ℕ → List ℕ → Side → ℕ → Schedule → Bool
option_over n b discounts flows side strike rows =
    not (values_accepted b n (bond_value n b discounts flows)
    && values_accepted b rows.last (option_value n b discounts flows side strike rows))

-- ---- the table

pub record CausePromises : Type 0 where
  -- rows, sizes and branches: no branch leaves row 60
  pub half-width : (b i : ℕ) → (half_width_answer b i).number ≡ first_of (cause 4 (not (is_reversion b)) ∷ cause 6 (ltb 60 i) ∷ [])
  pub node-count : (b i : ℕ) → (node_count_answer b i).number ≡ first_of (cause 4 (not (is_reversion b)) ∷ cause 6 (ltb 60 i) ∷ [])
  pub row-start : (b i : ℕ) → (row_start_answer b i).number ≡ first_of (cause 4 (not (is_reversion b)) ∷ cause 6 (ltb 60 i) ∷ [])
  pub discounts-needed : (n b : ℕ) → (discounts_needed_answer n b).number ≡ first_of (tree_causes n b [])
  pub state-prices-needed : (n b : ℕ) → (state_prices_needed_answer n b).number ≡ first_of (tree_causes n b [])
  pub branch : (b i : ℕ) (j : ℤ) →
      (branch_answer b i j).number ≡ first_of (cause 4 (not (is_reversion b)) ∷ cause 6 (not (ltb i 60 && leb (nat_abs j) (half_width b i))) ∷ [])
  -- figures, quotes and curves
  pub figure : (x : Float) → (figure_of x).number ≡ first_of (cause 7 (beyond x) ∷ [])
  pub lone-quote : (f kind : ℕ) (p : Point) →
      (lone_answer f kind p).number
      ≡ first_of (cause 2 (not (is_frequency f)) ∷ cause 6 (not (is_steps p.row)) ∷ cause 7 (not (is_kind kind)) ∷ cause 7 (beyond p.figure)
      ∷ cause 7 (not (quote_in_range (kind_discount f kind p.row (billionths_of p.figure)))) ∷ [])
  pub curve : (f n : ℕ) (rows kinds : List ℕ) (figures : List Float) (room : ℕ) →
      curve_number f n rows kinds figures room
      ≡ first_of (cause 2 (not (is_frequency f)) ∷ cause 3 (not (is_steps n)) ∷ cause 6 (not (quotes_placed n rows kinds figures && leb n room))
      ∷ cause 7 (not (quotes_converted f n kinds figures)) ∷ [])
  -- rates of a discount, the discount of an amount
  pub step-rate : (v : ℕ) → (rate_answer v).number ≡ first_of (cause 9 (not (is_discount v)) ∷ [])
  pub continuous-rate : (v : ℕ) → (continuous_rate_answer v).number ≡ first_of (cause 9 (not (is_discount v)) ∷ [])
  pub continuous-discount : (y : ℤ) → (continuous_answer y).number ≡ first_of (cause 7 (ltb 4000000000 (nat_abs y)) ∷ [])
  -- spacing, factor and fit, into memories of so many numbers
  pub node-spacing : (f s : ℕ) → (spacing_answer f s).number ≡ first_of (cause 2 (not (is_frequency f)) ∷ cause 5 (ltb 50000 s) ∷ [])
  pub node-factor : (j : ℤ) (h : ℕ) → (node_answer j h).number ≡ first_of (cause 8 (ltb one (nat_abs j * h)) ∷ [])
  pub fit : (f n b s : ℕ) (rows kinds : List ℕ) (figures : List Float) (discounts prices : ℕ) →
      fit_number f n b s rows kinds figures discounts prices
      ≡ first_of (cause 2 (not (is_frequency f)) ∷ tree_causes n b (cause 5 (ltb 50000 s)
      ∷ cause 6 (not (quotes_placed n rows kinds figures && leb (row_start b n) discounts && leb (row_start b (suc n)) prices))
      ∷ cause 7 (not (quotes_converted f n kinds figures)) ∷ cause 8 (ltb one (half_width b (n - 1) * spacing f s))
      ∷ cause 9 (not (every_node b n (λ i k. is_discount (fit_discount f n b (spacing f s) kinds figures i k)))) ∷ []))
  -- by version (document 02, request (ix)): 4 is about b, rows and memories go by the working reversion, 7 is a version other than 1 and 2 or a quote
  pub working-reversion : (v b : ℕ) → (working_answer v b).number ≡ first_of (cause 4 (not (is_reversion b)) ∷ cause 7 (not (is_version v)) ∷ [])
  pub variance-ratio : (v b : ℕ) → (ratio_answer v b).number ≡ first_of (cause 4 (not (is_reversion b)) ∷ cause 7 (not (is_version v)) ∷ [])
  pub version-spacing : (v f s b : ℕ) →
      (version_spacing_answer v f s b).number
      ≡ first_of (cause 2 (not (is_frequency f)) ∷ cause 4 (not (is_reversion b)) ∷ cause 5 (ltb 50000 s) ∷ cause 7 (not (is_version v)) ∷ [])
  pub version-fit : (v f n b s : ℕ) (rows kinds : List ℕ) (figures : List Float) (discounts prices : ℕ) →
      version_number v f n b s rows kinds figures discounts prices
      ≡ first_of (cause 2 (not (is_frequency f)) ∷ tree_causes n b (cause 5 (ltb 50000 s)
      ∷ cause 6 (not (quotes_placed n rows kinds figures && leb (row_start (working_reversion v b) n) discounts
      && leb (row_start (working_reversion v b) (suc n)) prices))
      ∷ cause 7 (not (is_version v)) ∷ cause 7 (not (quotes_converted f n kinds figures))
      ∷ cause 8 (ltb one (half_width (working_reversion v b) (n - 1) * version_spacing v f s b))
      ∷ cause 9 (not (every_node (working_reversion v b) n
      (λ i k. is_discount (fit_discount f n (working_reversion v b) (version_spacing v f s b) kinds figures i k)))) ∷ []))
  -- error bounds of lent discounts
  pub price-bound : (n b : ℕ) (discounts : List ℕ) →
      (price_error_bound_answer n b discounts).number ≡ first_of (lent_causes n b discounts true [])
  pub tree-bounds : (n b : ℕ) (discounts : List ℕ) → (tree_bounds_answer n b discounts).number ≡ first_of (lent_causes n b discounts true [])
  pub state-price-bound : (n b : ℕ) (discounts : List ℕ) (i : ℕ) →
      (state_price_error_bound_answer n b discounts i).number ≡ first_of (lent_causes n b discounts (leb i n) [])
  -- prices
  pub bond : (n b : ℕ) (discounts flows : List ℕ) →
      (bond_price n b discounts flows).number
      ≡ first_of (flow_causes n b discounts flows (cause 12 (not (values_accepted b n (bond_value n b discounts flows))) ∷ []))
  pub option : (n b : ℕ) (discounts flows : List ℕ) (kind expiry strike : ℕ) →
      (option_price n b discounts flows kind expiry strike).number
      ≡ first_of (flow_causes n b discounts flows (cause 11 (not (option_accepted n kind expiry strike))
      ∷ cause 12 (option_over n b discounts flows (side_of kind) strike (schedule_of kind expiry)) ∷ []))
  pub dated-option : (n b : ℕ) (discounts flows : List ℕ) (side : ℕ) (dates : List ℕ) (strike : ℕ) →
      (dated_price n b discounts flows side dates strike).number
      ≡ first_of (flow_causes n b discounts flows (cause 11 (not (terms_accepted side strike)) ∷ cause 13 (not (dates_accepted n dates))
      ∷ cause 12 (option_over n b discounts flows (numbered_side side) strike (dated_schedule dates)) ∷ []))
  -- strips themselves: every other cause stands in the answers
  pub strip : (n b : ℕ) (discounts flows : List ℕ) (side : ℕ) (dates strikes : List ℕ) →
      (option_strip n b discounts flows side dates strikes).number
      ≡ first_of (tree_causes n b (cause 6 (not (leb 1 (length strikes) && leb (length strikes) 16)) ∷ []))
  pub strip-of-kind : (n b : ℕ) (discounts flows : List ℕ) (kind expiry : ℕ) (strikes : List ℕ) →
      (kind_strip n b discounts flows kind expiry strikes).number
      ≡ first_of (tree_causes n b (cause 6 (not (leb 1 (length strikes) && leb (length strikes) 16)) ∷ []))
  -- weighing: two lengths that are equal, odd and at most 121; payoffs, the sum of the state prices and the value within their limits
  pub weighing : (prices payoffs : List ℕ) →
      (value_by_state_prices_answer prices payoffs).number
      ≡ first_of (cause 6 (not (eqb (length prices) (length payoffs) && not (eqb (length prices % 2) 0) && leb (length prices) 121))
      ∷ cause 12 (not (payoffs_accepted payoffs)) ∷ cause 12 (ltb 2000000100 (sum_of prices))
      ∷ cause 12 (ltb 8000000000 (sum (length prices) (λ k. values prices k * values payoffs k) / one)) ∷ [])
  pub weighing-bound : (n b : ℕ) (discounts : List ℕ) (i : ℕ) (payoffs : List ℕ) →
      (valuation_error_bound_answer n b discounts i payoffs).number
      ≡ first_of (lent_causes n b discounts (leb i n && eqb (length payoffs) (node_count b i)) (cause 12 (not (payoffs_accepted payoffs)) ∷ []))
