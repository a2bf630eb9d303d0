-- What the engine promises (documents 01 and 02): the demands on branching, rates and fit, and the accuracy of every price. Each line is about the
-- answer that an entry's contract gives, where its number is 0. m is 600,000,000 × one; the exact pricer's values are held times powers of m.
-- Assumes nothing.
use Rattle.std.specs.Prelude.{◌≡◌, true, false, List, [], ◌∷◌, ◌≢◌, ℕ, suc, ◌+◌, ◌-◌, ◌*◌, ◌/◌, ◌^◌, ◌≤◌, ◌<◌, min, max, ltb, Float, ℤ, pos, neg_ℤ, nat_abs, ◌+ℤ◌, ◌-ℤ◌, ◌*ℤ◌, length, take, drop}
use Rattle.std.specs.Int.Signed.{lt_z}
use Rattle.arithmetic.specs.Rounding.{one, nearest, round_up}
use Rattle.arithmetic.specs.Within.{Within}
use Rattle.arithmetic.specs.Sum.{sum, greatest}
use Rattle.arithmetic.specs.Row.{values}
use Rattle.tree.specs.Tree.{Tree, Transition, Sound, chance, incoming, outgoing, unit}
use Rattle.lattice.specs.Shape.{half_width, node_count, row_start, discounts_needed}
use Rattle.lattice.specs.Branching.{branching, z_of, up_formula, middle_formula, down_formula, middle_probability, down_probability, change_to, squared, square_to}
use Rattle.lattice.specs.Branching as branches
use Rattle.lattice.specs.RateTree.{rate_tree}
use Rattle.lattice.specs.declared.Branches.{Branches}
use Rattle.lattice.specs.Entries.{branch_answer}
use Rattle.lent_tree.specs.LentTree.{stored}
use Rattle.spacing.specs.Spacing.{spacing, spacing_answer}
use Rattle.factor.specs.Series.{scale}
use Rattle.factor.specs.Factor.{exact_factor, node_answer}
use Rattle.step_rate.specs.StepRate.{rate_answer}
use Rattle.continuous.specs.Continuous.{power_scale, exact_power}
use Rattle.continuous_rate.specs.ContinuousRate.{continuous_rate_answer, Nearest, SameSign}
use Rattle.figure.specs.Figure.{billionths_of}
use Rattle.quotes.specs.declared.Point.{Point}
use Rattle.quotes.specs.Quotes.{yield_amount, lone_answer}
use Rattle.curve.specs.Curve.{discount_at}
use Rattle.fitted_laws.specs.Entry.{fitted_number, fit_discount, fit_state_price, fit_memory, fit_discounts, fit_state_prices}
use Rattle.fit_laws.specs.StatePrices.{state_price, exact_state_price, state_price_error_bound}
use Rattle.state_price_bound.specs.ErrorBound.{state_price_error_bound_answer}
use Rattle.pricing_laws.specs.Pricer.{Side, call, put, Schedule, bond, bare_bond, exercise, option, payoff_value}
use Rattle.pricing_laws.specs.Schedule.{european, american, side_of, schedule_of, kind_side, kind_dates, numbered_side, dated_schedule, Contained}
use Rattle.pricing_laws.specs.TreePricer.{engine, exact, greatest_discount, price_error_bound}
use Rattle.price_bound.specs.declared.TreeErrorBounds.{TreeErrorBounds}
use Rattle.price_bound.specs.PriceBound.{tree_bounds_answer}
use Rattle.price_laws.specs.Prices.{flow_at, bond_price, option_price, dated_price}
use Rattle.price_laws.specs.Exact.{exact_bond, exact_option, exact_dated, exact_payoff, Accurate}
use Rattle.valuation.specs.Entries.{value_by_state_prices_answer, valuation_error_bound_answer}

-- ---- branching, spacing, factors, rates and fit

-- the branch of node j of row i: the paper's formulas, none below 0, as one group with exact sum; to three neighbouring nodes of the next row;
-- and over those very nodes the mean −z / 10,000 and the variance 1/3
pub record Branched (b i : ℕ) (j : ℤ) (a : Branches) : Type 0 where
  pub up-whole : up_formula (branching b j) (z_of b j) ≡ pos (branches.up_probability b j)
  pub middle-whole : middle_formula (branching b j) (z_of b j) ≡ pos (middle_probability b j)
  pub down-whole : down_formula (branching b j) (z_of b j) ≡ pos (down_probability b j)
  pub group : a.probabilities ≡ branches.up_probability b j ∷ middle_probability b j ∷ down_probability b j ∷ []
  pub total : branches.up_probability b j + middle_probability b j + down_probability b j ≡ 600000000
  pub lands : (m : ℕ) → m ≤ 2 → nat_abs (a.lowest +ℤ pos m) ≤ half_width b (suc i)
  pub mean : pos 10000 *ℤ change_to j a.lowest (branches.up_probability b j) (middle_probability b j) (down_probability b j) ≡ neg_ℤ (pos 600000000 *ℤ z_of b j)
  pub variance :
      3 * (600000000 * square_to j a.lowest (branches.up_probability b j) (middle_probability b j) (down_probability b j))
      ≡ 600000000 * 600000000 + 3 * squared (change_to j a.lowest (branches.up_probability b j) (middle_probability b j) (down_probability b j))

-- nodes −w to w, w the lesser of i and J, which is 1,840 divided by b, down, plus 1; with b = 0 there is no J and w = i
pub record Widths (b i : ℕ) : Type 0 where
  pub without-pull : b ≡ 0 → half_width b i ≡ i
  pub with-pull : 0 < b → half_width b i ≡ min i (1840 / b + 1)
  pub count : node_count b i ≡ 2 * half_width b i + 1

-- rows stand one after the other, without a gap: each starts where the one before it ends; lowest node first
pub record Tiled (b : ℕ) : Type 0 where
  pub first : row_start b 0 ≡ 0
  pub next : (i : ℕ) → row_start b (suc i) ≡ row_start b i + node_count b i
  pub read_at : (memory : List ℕ) (i k : ℕ) → stored b memory i k ≡ values memory (row_start b i + k)

-- The tree of fit, engine and exact pricer at index k of row i, node k − w: it leads where the answer a says, by its three probabilities.
pub record LedAs (b i k : ℕ) (a : Branches) : Type 0 where
  pub given : a.number ≡ 0
  pub lowest : pos (((rate_tree b).step i).low k) -ℤ pos (half_width b (suc i)) ≡ a.lowest
  pub group : a.probabilities ≡ ((rate_tree b).step i).up k ∷ ((rate_tree b).step i).middle k ∷ ((rate_tree b).step i).down k ∷ []

-- The sums over branches: down leads to the lowest of three neighbouring nodes, middle to the next, up to the highest. A roll sums over the branches
-- out of a node, a state price over those into one, of n nodes of the row before.
pub record BranchSums (t : Transition) : Type 0 where
  pub leaving : (value : ℕ → ℕ) (k : ℕ) →
      outgoing t value k ≡ t.down k * value (t.low k) + t.middle k * value (t.low k + 1) + t.up k * value (t.low k + 2)
  pub entering : (n : ℕ) (amount : ℕ → ℕ) (j : ℕ) → incoming t n amount j ≡ sum n (λ k. chance t k j * amount k)
  pub by_down : (k : ℕ) → chance t k (t.low k) ≡ t.down k
  pub by-middle : (k : ℕ) → chance t k (t.low k + 1) ≡ t.middle k
  pub by-up : (k : ℕ) → chance t k (t.low k + 2) ≡ t.up k
  pub none_below : (k j : ℕ) → j < t.low k → chance t k j ≡ 0
  pub none_above : (k j : ℕ) → t.low k + 2 < j → chance t k j ≡ 0

-- h is the greatest whole number with h² × f³ ≤ 3 × (1,000 s)²
pub record Spaced (f s h : ℕ) : Type 0 where
  pub passes : h * h * (f * f * f) ≤ 3 * (1000 * s * (1000 * s))
  pub greatest : (g : ℕ) → g * g * (f * f * f) ≤ 3 * (1000 * s * (1000 * s)) → g ≤ h

-- U(j), with y = |j| × h: term 0 is one, term k is (term k − 1) × y / (k × one), down, to term 12; the sum for j < 0, which is one or more, the sum
-- with alternating signs for j ≥ 0, which is one or less
pub record Factored (j : ℤ) (h factor : ℕ) : Type 0 where
  pub term : ℕ → ℕ
  pub term-first : term 0 ≡ one
  pub term-next : (k : ℕ) → term (suc k) ≡ term k * (nat_abs j * h) / (suc k * one)
  pub below-middle : lt_z j (pos 0) ≡ true → (factor ≡ sum 13 term) × (one ≤ factor)
  pub from-middle : lt_z j (pos 0) ≡ false → (factor ≡ sum 7 (λ i. term (2 * i)) - sum 6 (λ i. term (2 * i + 1))) × (factor ≤ one)

-- The fit row by row: discounts and state prices by row and index, index k of row i being node k − w; h the spacing, quote i that of row i + 1.
-- Row 0 has the state price one. Z = (sum of state price × U) / one, down. Node discount = quote × U / Z, down. Carried amount = state price × discount
-- / one, down. Next row's state price: the sum over incoming branches of probability × carried amount, divided by 600,000,000 once, down.
pub record FitRows (b n h : ℕ) (quote : ℕ → ℕ) (discount price : ℕ → ℕ → ℕ) : Type 0 where
  pub factor : ℕ → ℕ → ℕ
  pub normaliser : ℕ → ℕ
  pub carried : ℕ → ℕ → ℕ
  pub factored : (i k : ℕ) → i < n → k < node_count b i → Factored (pos k -ℤ pos (half_width b i)) h (factor i k)
  pub first-price : price 0 0 ≡ one
  pub normalised : (i : ℕ) → i < n → normaliser i ≡ sum (node_count b i) (λ k. price i k * factor i k) / one
  pub discounted : (i k : ℕ) → i < n → k < node_count b i → discount i k ≡ quote i * factor i k / normaliser i
  pub carrying : (i k : ℕ) → i < n → k < node_count b i → carried i k ≡ price i k * discount i k / one
  pub next-price : (i j : ℕ) → i < n → j < node_count b (suc i) →
      price (suc i) j ≡ incoming ((rate_tree b).step i) (node_count b i) (carried i) j / 600000000

-- rows 0 to n − 1 of values at the start of a memory, one after the other, lowest node first; past them it is as it was
pub record LaidOut (b n : ℕ) (value : ℕ → ℕ → ℕ) (before after : List ℕ) : Type 0 where
  pub length-kept : length after ≡ length before
  pub held : (i k : ℕ) → i < n → k < node_count b i → values after (row_start b i + k) ≡ value i k
  pub past-kept : drop (row_start b n) after ≡ drop (row_start b n) before

-- a quote and the sum of its row's state prices are at most 300 billionths apart
pub record Repriced (quote total : ℕ) : Type 0 where
  pub below : quote ≤ total + 300
  pub above : total ≤ quote + 300

-- fitted state prices of row i: at most the exact ones, which are held times m^i, and short of them in sum by at most the error bound
pub record StatePriced (b i : ℕ) (fitted exact : ℕ → ℕ) (bound : ℕ) : Type 0 where
  pub below : (k : ℕ) → k < node_count b i → unit ^ i * fitted k ≤ exact k
  pub short : sum (node_count b i) (λ k. exact k - unit ^ i * fitted k) ≤ unit ^ i * bound

-- The state prices that follow from node discounts, whoever stored them, rounded as the fit rounds and exact, the latter held times m^i; and the
-- error bound (document 01: state-price allowance), with the greatest discount of the row before: times the former / one, up, plus both rows' node counts.
pub record StatePriceRows (t : Tree) (discount : ℕ → ℕ → ℕ) : Type 0 where
  pub first : (k : ℕ) → state_price t discount 0 k ≡ one
  pub next : (i j : ℕ) →
      state_price t discount (suc i) j ≡ incoming (t.step i) (t.nodes i) (λ k. state_price t discount i k * discount i k / one) j / 600000000
  pub exact-first : (k : ℕ) → exact_state_price t discount 0 k ≡ one
  pub exact-next : (i j : ℕ) →
      exact_state_price t discount (suc i) j ≡ incoming (t.step i) (t.nodes i) (λ k. exact_state_price t discount i k * discount i k) j
  pub bound-first : state_price_error_bound t discount 0 ≡ 0
  pub bound-next : (i : ℕ) →
      state_price_error_bound t discount (suc i)
      ≡ round_up (greatest (t.nodes i) (discount i) * state_price_error_bound t discount i) one + t.nodes i + t.nodes (suc i)

-- f steps a year, n steps, reversion b, volatility s; quotes as rows, kinds and figures; the lengths of both memories
pub record TreePromises : Type 0 where
  pub branches-exact : (b i : ℕ) (j : ℤ) → (branch_answer b i j).number ≡ 0 → Branched b i j (branch_answer b i j)
  pub row-widths : (b i : ℕ) → Widths b i
  pub rows-tiled : (b : ℕ) → Tiled b
  -- the tree that fit, engine and exact pricer use has these rows and branches, and is sound: one node on row 0, branches inside the next row,
  -- probabilities that sum to 600,000,000
  pub tree-rows : (b i : ℕ) → (rate_tree b).nodes i ≡ node_count b i
  pub tree-branches : (b i k : ℕ) → b ≤ 6000 → i < 60 → k < node_count b i → LedAs b i k (branch_answer b i (pos k -ℤ pos (half_width b i)))
  pub tree-sound : (b : ℕ) → b ≤ 6000 → Sound (rate_tree b)
  pub branch-sums : (t : Transition) → BranchSums t
  pub spacing-greatest : (f s : ℕ) → (spacing_answer f s).number ≡ 0 → Spaced f s (spacing_answer f s).value
  pub spacing-is : (f s : ℕ) → (spacing_answer f s).number ≡ 0 → (spacing_answer f s).value ≡ spacing f s
  -- U(j) is within 14 of the same series in exact fractions, held times 12! × one^11
  pub factors-near : (j : ℤ) (h : ℕ) → (node_answer j h).number ≡ 0 → Within 14 scale (node_answer j h).value (exact_factor j h)
  pub factors-by-sign : (j : ℤ) (h : ℕ) → (node_answer j h).number ≡ 0 → Factored j h (node_answer j h).value
  -- a step rate is negative exactly where the discount is above one, positive exactly where it is below
  pub sign-of-rates : (v : ℕ) → (rate_answer v).number ≡ 0 →
      (lt_z (rate_answer v).value (pos 0) ≡ ltb one v) × (lt_z (pos 0) (rate_answer v).value ≡ ltb v one)
  -- Of any working reversion w and spacing h, and the spacing's number: the fit has b, document 01's h and its number, the fit by version its own. That
  -- number is 0 in an accepted fit, so its h is the one answered.
  pub fit-spaced : (f n w spaced h : ℕ) (rows kinds : List ℕ) (figures : List Float) (room-discounts room-prices : ℕ) →
      fitted_number f n w spaced h rows kinds figures room-discounts room-prices ≡ 0 → spaced ≡ 0
  -- an accepted fit is these rows, and leaves them in its two memories: discounts of rows 0 to n − 1, state prices of rows 0 to n
  pub fit-rows : (f n w spaced h : ℕ) (rows kinds : List ℕ) (figures : List Float) (room-discounts room-prices : ℕ) →
      fitted_number f n w spaced h rows kinds figures room-discounts room-prices ≡ 0 →
      FitRows w n h (discount_at f kinds figures) (fit_discount f n w h kinds figures) (fit_state_price f n w h kinds figures)
  pub fit-laid : (f n w spaced h : ℕ) (rows kinds : List ℕ) (figures : List Float) (d q : List ℕ) →
      fitted_number f n w spaced h rows kinds figures (length d) (length q) ≡ 0 →
      LaidOut w n (fit_discount f n w h kinds figures) d
      (fit_memory (fitted_number f n w spaced h rows kinds figures (length d) (length q)) (fit_discounts f n w h kinds figures) d)
      × LaidOut w (suc n) (fit_state_price f n w h kinds figures) q
      (fit_memory (fitted_number f n w spaced h rows kinds figures (length d) (length q)) (fit_state_prices f n w h kinds figures) q)
  pub quotes-repriced : (f n w spaced h : ℕ) (rows kinds : List ℕ) (figures : List Float) (room-discounts room-prices : ℕ) →
      fitted_number f n w spaced h rows kinds figures room-discounts room-prices ≡ 0 → (i : ℕ) → i < n →
      Repriced (discount_at f kinds figures i) (sum (node_count w (suc i)) (fit_state_price f n w h kinds figures (suc i)))
  -- no row's state prices sum above what weighing takes
  pub sums-weighable : (f n w spaced h : ℕ) (rows kinds : List ℕ) (figures : List Float) (room-discounts room-prices : ℕ) →
      fitted_number f n w spaced h rows kinds figures room-discounts room-prices ≡ 0 → (i : ℕ) → i ≤ n →
      sum (node_count w i) (fit_state_price f n w h kinds figures i) ≤ 2000000100
  -- state prices, exact and rounded, and their error bound row by row, on any tree; the entry's answer is this bound
  pub state-price-rows : (t : Tree) (discount : ℕ → ℕ → ℕ) → StatePriceRows t discount
  pub state-price-bound-is : (n b : ℕ) (discounts : List ℕ) (i : ℕ) → (state_price_error_bound_answer n b discounts i).number ≡ 0 →
      (state_price_error_bound_answer n b discounts i).value ≡ state_price_error_bound (rate_tree b) (stored b discounts) i
  -- for any lent discounts: the state prices that follow from them against the exact ones
  pub lent-state-prices-near : (n b : ℕ) (discounts : List ℕ) (i : ℕ) → (state_price_error_bound_answer n b discounts i).number ≡ 0 →
      StatePriced b i (state_price (rate_tree b) (stored b discounts) i) (exact_state_price (rate_tree b) (stored b discounts) i)
      (state_price_error_bound_answer n b discounts i).value
  -- against the exact state prices of the same fit's node discounts, with the error bound that the entry gives for these
  pub state-prices-near : (f n w spaced h : ℕ) (rows kinds : List ℕ) (figures : List Float) (room-discounts room-prices : ℕ) →
      fitted_number f n w spaced h rows kinds figures room-discounts room-prices ≡ 0 → (i : ℕ) → i ≤ n →
      ((state_price_error_bound_answer n w (fit_discounts f n w h kinds figures) i).number ≡ 0)
      × StatePriced w i (fit_state_price f n w h kinds figures i) (exact_state_price (rate_tree w) (stored w (fit_discounts f n w h kinds figures)) i)
      (state_price_error_bound_answer n w (fit_discounts f n w h kinds figures) i).value

-- ---- prices

-- never above the exact price, and short of it by at most the error bound
pub record ShortOf (bound M price x : ℕ) : Type 0 where
  pub never-above : price * M ≤ x
  pub short : x ≤ (price + bound) * M

-- no node discount that is needed is above one
abbrev pub NoneAboveOne : ℕ → ℕ → List ℕ → Type 0
NoneAboveOne n b discounts = (k : ℕ) → k < discounts_needed n b → values discounts k ≤ one

-- the discounts of the tree and the state prices of row r are those of the fit, unaltered since
pub record Unaltered (f n w h : ℕ) (kinds : List ℕ) (figures : List Float) (discounts : List ℕ) (r : ℕ) (prices : List ℕ) : Type 0 where
  pub discounts-long : row_start w n ≤ length discounts
  pub discounts-kept : (i k : ℕ) → i < n → k < node_count w i → values discounts (row_start w i + k) ≡ fit_discount f n w h kinds figures i k
  pub row-length : length prices ≡ node_count w r
  pub prices-kept : (k : ℕ) → k < node_count w r → values prices k ≡ fit_state_price f n w h kinds figures r k

-- flows stand for rows 1 to n: none on row 0, flow t on row t
pub record FlowRows (flows : List ℕ) : Type 0 where
  pub none : flow_at flows 0 ≡ 0
  pub of_row : (t : ℕ) → flow_at flows (suc t) ≡ values flows t

-- exercise value: bond less strike, or strike less bond, at least 0
pub record Exercised (strike price : ℕ) : Type 0 where
  pub of-call : exercise call strike price ≡ price - strike
  pub of-put : exercise put strike price ≡ strike - price

-- the rows of a list: the last is its last entry, and a row is listed where it is an entry, and nowhere else
pub record ListedRows (dates : List ℕ) : Type 0 where
  pub last_entry : (dated_schedule dates).last ≡ values dates (length dates - 1)
  pub entries : (k : ℕ) → k < length dates → (dated_schedule dates).listed (values dates k) ≡ true
  pub no_other : (i : ℕ) → (dated_schedule dates).listed i ≡ true → (k : ℕ) × (k < length dates) × (i ≡ values dates k)

-- every row from 0 to expiry
pub record EveryRow (expiry : ℕ) (dates : List ℕ) : Type 0 where
  pub size : length dates ≡ suc expiry
  pub rows : (i : ℕ) → i ≤ expiry → values dates i ≡ i

-- a kind: its side, which a dated option has by this number, and its list, whose rows are its schedule
pub record KindOf (kind expiry : ℕ) (side : Side) (number : ℕ) (rows : Schedule) : Type 0 where
  pub side-is : side_of kind ≡ side
  pub number_is : kind_side kind ≡ number
  pub numbered : numbered_side number ≡ side
  pub list-is : schedule_of kind expiry ≡ dated_schedule (kind_dates kind expiry)
  pub rows_are : schedule_of kind expiry ≡ rows

-- 1 European call, 2 European put, 3 American call, 4 American put: special lists, expiry alone, or every row from 0 to expiry
pub record Kinds (expiry : ℕ) : Type 0 where
  pub european-call : KindOf 1 expiry call 1 (european expiry)
  pub european-put : KindOf 2 expiry put 2 (european expiry)
  pub american-call : KindOf 3 expiry call 1 (american expiry)
  pub american-put : KindOf 4 expiry put 2 (american expiry)
  pub call-alone : kind_dates 1 expiry ≡ expiry ∷ []
  pub put_alone : kind_dates 2 expiry ≡ expiry ∷ []
  pub call-every : EveryRow expiry (kind_dates 3 expiry)
  pub put-every : EveryRow expiry (kind_dates 4 expiry)

-- a value rolled from the next row: the sum of probability × later value, divided by 600,000,000, nearest; then × discount / one, nearest
abbrev pub rolled : Tree → (ℕ → ℕ → ℕ) → ℕ → (ℕ → ℕ) → ℕ → ℕ
rolled t discount i later k = nearest (nearest (outgoing (t.step i) later k) 600000000 * discount i k) one

-- The engine row by row. Row n is its flow, an earlier row the rolled value plus its flow; without its flow the bond is the rolled value. On an
-- option's last row the exercise value, on the bond without the flow of its row; earlier, listed rows take the larger of roll and exercise and the rest
-- roll. So European rolls, American takes the larger.
pub record EngineRows (t : Tree) (discount : ℕ → ℕ → ℕ) (flow : ℕ → ℕ) (n : ℕ) (side : Side) (strike expiry : ℕ) : Type 0 where
  pub bond-last : (k : ℕ) → bond (engine t discount) flow n n k ≡ flow n
  pub bond-before : (i : ℕ) → i < n → (k : ℕ) →
      bond (engine t discount) flow n i k
      ≡ rolled t discount i (bond (engine t discount) flow n (suc i)) k + flow i
  pub bare-before : (i : ℕ) → i < n → (k : ℕ) →
      bare_bond (engine t discount) flow n i k
      ≡ rolled t discount i (bond (engine t discount) flow n (suc i)) k
  pub option-last : (rows : Schedule) (k : ℕ) →
      option (engine t discount) flow n side strike rows rows.last k ≡ exercise side strike (bare_bond (engine t discount) flow n rows.last k)
  pub listed-before : (rows : Schedule) (i : ℕ) → i < rows.last → rows.listed i ≡ true → (k : ℕ) →
      option (engine t discount) flow n side strike rows i k
      ≡ max (rolled t discount i (option (engine t discount) flow n side strike rows (suc i)) k)
      (exercise side strike (bare_bond (engine t discount) flow n i k))
  pub unlisted-before : (rows : Schedule) (i : ℕ) → i < rows.last → rows.listed i ≡ false → (k : ℕ) →
      option (engine t discount) flow n side strike rows i k
      ≡ rolled t discount i (option (engine t discount) flow n side strike rows (suc i)) k
  pub european-before : (i : ℕ) → i < expiry → (k : ℕ) →
      option (engine t discount) flow n side strike (european expiry) i k
      ≡ rolled t discount i (option (engine t discount) flow n side strike (european expiry) (suc i)) k
  pub american-before : (i : ℕ) → i < expiry → (k : ℕ) →
      option (engine t discount) flow n side strike (american expiry) i k
      ≡ max (rolled t discount i (option (engine t discount) flow n side strike (american expiry) (suc i)) k)
      (exercise side strike (bare_bond (engine t discount) flow n i k))

-- The exact pricer, row i held times m^(n − i): it rounds nothing.
pub record ExactRows (t : Tree) (discount : ℕ → ℕ → ℕ) (flow : ℕ → ℕ) (n : ℕ) (side : Side) (strike expiry : ℕ) : Type 0 where
  pub bond-last : (k : ℕ) → bond (exact t discount) flow n n k ≡ flow n
  pub bond-before : (i : ℕ) → i < n → (k : ℕ) →
      bond (exact t discount) flow n i k ≡ discount i k * outgoing (t.step i) (bond (exact t discount) flow n (suc i)) k + flow i * unit ^ (n - i)
  pub bare-before : (i : ℕ) → i < n → (k : ℕ) →
      bare_bond (exact t discount) flow n i k ≡ discount i k * outgoing (t.step i) (bond (exact t discount) flow n (suc i)) k
  pub option-last : (rows : Schedule) (k : ℕ) →
      option (exact t discount) flow n side strike rows rows.last k
      ≡ exercise side (strike * unit ^ (n - rows.last)) (bare_bond (exact t discount) flow n rows.last k)
  pub listed-before : (rows : Schedule) (i : ℕ) → i < rows.last → rows.listed i ≡ true → (k : ℕ) →
      option (exact t discount) flow n side strike rows i k
      ≡ max (discount i k * outgoing (t.step i) (option (exact t discount) flow n side strike rows (suc i)) k)
      (exercise side (strike * unit ^ (n - i)) (bare_bond (exact t discount) flow n i k))
  pub unlisted-before : (rows : Schedule) (i : ℕ) → i < rows.last → rows.listed i ≡ false → (k : ℕ) →
      option (exact t discount) flow n side strike rows i k
      ≡ discount i k * outgoing (t.step i) (option (exact t discount) flow n side strike rows (suc i)) k
  pub european-before : (i : ℕ) → i < expiry → (k : ℕ) →
      option (exact t discount) flow n side strike (european expiry) i k
      ≡ discount i k * outgoing (t.step i) (option (exact t discount) flow n side strike (european expiry) (suc i)) k
  pub american-before : (i : ℕ) → i < expiry → (k : ℕ) →
      option (exact t discount) flow n side strike (american expiry) i k
      ≡ max (discount i k * outgoing (t.step i) (option (exact t discount) flow n side strike (american expiry) (suc i)) k)
      (exercise side (strike * unit ^ (n - i)) (bare_bond (exact t discount) flow n i k))
  pub payoff-last : (payoff : ℕ → ℕ) (i k : ℕ) → payoff_value (exact t discount) payoff 0 i k ≡ payoff k
  pub payoff-before : (payoff : ℕ → ℕ) (s i k : ℕ) →
      payoff_value (exact t discount) payoff (suc s) i k ≡ discount i k * outgoing (t.step i) (payoff_value (exact t discount) payoff s (suc i)) k

-- The error bound (document 01: price allowance), with G(i) the greatest discount of row i: 0 at row n, then G × later bound / one, up, plus 2.
pub record BoundRows (t : Tree) (discount : ℕ → ℕ → ℕ) (n : ℕ) : Type 0 where
  pub greatest-of-row : (i : ℕ) → greatest_discount t discount i ≡ greatest (t.nodes i) (discount i)
  pub last : price_error_bound t discount n n ≡ 0
  pub before : (i : ℕ) → i < n →
      price_error_bound t discount n i ≡ round_up (greatest_discount t discount i * price_error_bound t discount n (suc i)) one + 2

-- what is known of a tree of lent discounts (document 02, request (viii)): its error bound, and the greatest discount of each row, in 60 places, 0 for rows
-- that the tree has not
pub record BoundsKnown (n b : ℕ) (discounts : List ℕ) (a : TreeErrorBounds) : Type 0 where
  pub bound-is : a.bound ≡ price_error_bound (rate_tree b) (stored b discounts) n 0
  pub places : length a.greatest ≡ 60
  pub greatest-is : (i : ℕ) → i < n → values a.greatest i ≡ greatest_discount (rate_tree b) (stored b discounts) i
  pub none-past : (i : ℕ) → n ≤ i → values a.greatest i ≡ 0

-- what is answered, and what it is held against, are these at row 0
pub record PricedByRows (n b : ℕ) (discounts flows : List ℕ) : Type 0 where
  pub bond-is : (bond_price n b discounts flows).number ≡ 0 →
      (bond_price n b discounts flows).value ≡ bond (engine (rate_tree b) (stored b discounts)) (flow_at flows) n 0 0
  pub bond-bound : (bond_price n b discounts flows).number ≡ 0 →
      (bond_price n b discounts flows).bound ≡ price_error_bound (rate_tree b) (stored b discounts) n 0
  pub option_is : (kind expiry strike : ℕ) → (option_price n b discounts flows kind expiry strike).number ≡ 0 →
      (option_price n b discounts flows kind expiry strike).value
      ≡ option (engine (rate_tree b) (stored b discounts)) (flow_at flows) n (side_of kind) strike (schedule_of kind expiry) 0 0
  pub option-bound : (kind expiry strike : ℕ) → (option_price n b discounts flows kind expiry strike).number ≡ 0 →
      (option_price n b discounts flows kind expiry strike).bound ≡ price_error_bound (rate_tree b) (stored b discounts) n 0
  pub dated-is : (side : ℕ) (dates : List ℕ) (strike : ℕ) → (dated_price n b discounts flows side dates strike).number ≡ 0 →
      (dated_price n b discounts flows side dates strike).value
      ≡ option (engine (rate_tree b) (stored b discounts)) (flow_at flows) n (numbered_side side) strike (dated_schedule dates) 0 0
  pub dated-bound : (side : ℕ) (dates : List ℕ) (strike : ℕ) → (dated_price n b discounts flows side dates strike).number ≡ 0 →
      (dated_price n b discounts flows side dates strike).bound ≡ price_error_bound (rate_tree b) (stored b discounts) n 0
  pub exact-bond-is : exact_bond n b discounts flows ≡ bond (exact (rate_tree b) (stored b discounts)) (flow_at flows) n 0 0
  pub exact-option-is : (kind expiry strike : ℕ) →
      exact_option n b discounts flows kind expiry strike
      ≡ option (exact (rate_tree b) (stored b discounts)) (flow_at flows) n (side_of kind) strike (schedule_of kind expiry) 0 0
  pub exact-dated-is : (side : ℕ) (dates : List ℕ) (strike : ℕ) →
      exact_dated n b discounts flows side dates strike
      ≡ option (exact (rate_tree b) (stored b discounts)) (flow_at flows) n (numbered_side side) strike (dated_schedule dates) 0 0
  pub exact-payoff-is : (r : ℕ) (payoffs : List ℕ) →
      exact_payoff b discounts r payoffs ≡ payoff_value (exact (rate_tree b) (stored b discounts)) (values payoffs) r 0 0

-- Weighing: the sum of state price × payoff, divided by one, down; its error bound: the greatest payoff × that of the state prices / one, up, plus 1.
pub record Weighed (prices payoffs : List ℕ) (n b : ℕ) (discounts : List ℕ) (r : ℕ) : Type 0 where
  pub value-is : (value_by_state_prices_answer prices payoffs).number ≡ 0 →
      (value_by_state_prices_answer prices payoffs).value ≡ sum (length prices) (λ k. values prices k * values payoffs k) / one
  pub bound-is : (valuation_error_bound_answer n b discounts r payoffs).number ≡ 0 →
      (valuation_error_bound_answer n b discounts r payoffs).value
      ≡ round_up (greatest (node_count b r) (values payoffs) * state_price_error_bound (rate_tree b) (stored b discounts) r) one + 1

-- Prices on a tree of n steps and reversion b with lent discounts, of a bond with these flows.
pub record TreePricePromises (n b : ℕ) (discounts flows : List ℕ) : Type 0 where
  pub by_rows : PricedByRows n b discounts flows
  pub bond-accurate : (bond_price n b discounts flows).number ≡ 0 →
      Accurate (unit ^ n) (bond_price n b discounts flows) (exact_bond n b discounts flows)
  -- the four kinds of option
  pub option-accurate : (kind expiry strike : ℕ) →
      (option_price n b discounts flows kind expiry strike).number ≡ 0 →
      Accurate (unit ^ n) (option_price n b discounts flows kind expiry strike) (exact_option n b discounts flows kind expiry strike)
  -- options on listed rows (document 02, request (iii)); a kind and its list give one whole answer wherever expiry is below n
  pub dated-accurate : (side : ℕ) (dates : List ℕ) (strike : ℕ) →
      (dated_price n b discounts flows side dates strike).number ≡ 0 →
      Accurate (unit ^ n) (dated_price n b discounts flows side dates strike) (exact_dated n b discounts flows side dates strike)
  pub kinds-are-lists : (kind expiry strike : ℕ) → 1 ≤ kind → kind ≤ 4 → expiry < n →
      option_price n b discounts flows kind expiry strike ≡ dated_price n b discounts flows (kind_side kind) (kind_dates kind expiry) strike
  -- more rights cost no less (document 02, request (v)), in the engine's own billionths: on one tree, bond, side and strike, where both are priced
  pub dates-no-less : (side strike : ℕ) (few many : List ℕ) →
      (dated_price n b discounts flows side few strike).number ≡ 0 → (dated_price n b discounts flows side many strike).number ≡ 0 → Contained few many →
      (dated_price n b discounts flows side few strike).value ≤ (dated_price n b discounts flows side many strike).value
  -- kind 3 against 1 and 4 against 2, of one expiry; no other kind has both priced
  pub american-no-less : (kind expiry strike : ℕ) →
      (option_price n b discounts flows kind expiry strike).number ≡ 0 → (option_price n b discounts flows (kind + 2) expiry strike).number ≡ 0 →
      (option_price n b discounts flows kind expiry strike).value ≤ (option_price n b discounts flows (kind + 2) expiry strike).value
  -- a kind against a list of its side, either way
  pub kind-no-more : (kind expiry strike : ℕ) → (option_price n b discounts flows kind expiry strike).number ≡ 0 →
      (dates : List ℕ) → (dated_price n b discounts flows (kind_side kind) dates strike).number ≡ 0 → Contained (kind_dates kind expiry) dates →
      (option_price n b discounts flows kind expiry strike).value ≤ (dated_price n b discounts flows (kind_side kind) dates strike).value
  pub kind-no-less : (kind expiry strike : ℕ) → (option_price n b discounts flows kind expiry strike).number ≡ 0 →
      (dates : List ℕ) → (dated_price n b discounts flows (kind_side kind) dates strike).number ≡ 0 → Contained dates (kind_dates kind expiry) →
      (dated_price n b discounts flows (kind_side kind) dates strike).value ≤ (option_price n b discounts flows kind expiry strike).value
  -- at most 2 billionths a step
  pub bond-a-step : (bond_price n b discounts flows).number ≡ 0 → NoneAboveOne n b discounts →
      (bond_price n b discounts flows).bound ≤ 2 * n
  pub option-a-step : (kind expiry strike : ℕ) →
      (option_price n b discounts flows kind expiry strike).number ≡ 0 → NoneAboveOne n b discounts →
      (option_price n b discounts flows kind expiry strike).bound ≤ 2 * n
  pub dated-a-step : (side : ℕ) (dates : List ℕ) (strike : ℕ) →
      (dated_price n b discounts flows side dates strike).number ≡ 0 → NoneAboveOne n b discounts →
      (dated_price n b discounts flows side dates strike).bound ≤ 2 * n

-- Prices on any accepted tree, whoever lent its discounts; and payoffs valued by fitted state prices, unaltered since.
pub record PricePromises : Type 0 where
  -- engine and exact pricer row by row, on any tree, and the entries' answers by them
  pub engine-rows : (t : Tree) (discount : ℕ → ℕ → ℕ) (flow : ℕ → ℕ) (n : ℕ) (side : Side) (strike expiry : ℕ) →
      EngineRows t discount flow n side strike expiry
  pub exact-rows : (t : Tree) (discount : ℕ → ℕ → ℕ) (flow : ℕ → ℕ) (n : ℕ) (side : Side) (strike expiry : ℕ) →
      ExactRows t discount flow n side strike expiry
  pub bound-rows : (t : Tree) (discount : ℕ → ℕ → ℕ) (n : ℕ) → BoundRows t discount n
  pub bounds-known : (n b : ℕ) (discounts : List ℕ) → (tree_bounds_answer n b discounts).number ≡ 0 → BoundsKnown n b discounts (tree_bounds_answer n b discounts)
  pub flow-rows : (flows : List ℕ) → FlowRows flows
  pub exercise-values : (strike price : ℕ) → Exercised strike price
  pub listed-rows : (dates : List ℕ) → ListedRows dates
  pub four-kinds : (expiry : ℕ) → Kinds expiry
  pub on-tree : (n b : ℕ) (discounts flows : List ℕ) → TreePricePromises n b discounts flows
  pub weighed : (prices payoffs : List ℕ) (n b : ℕ) (discounts : List ℕ) (r : ℕ) → Weighed prices payoffs n b discounts r
  -- whatever was fitted, payoffs valued by the fitted state prices of any row, against the exact price on the same fit's node discounts
  pub payoffs-accurate : (f n w spaced h : ℕ) (rows kinds : List ℕ) (figures : List Float) (room-discounts room-prices : ℕ) →
      fitted_number f n w spaced h rows kinds figures room-discounts room-prices ≡ 0 →
      (discounts : List ℕ) (r : ℕ) (prices payoffs : List ℕ) → r ≤ n → Unaltered f n w h kinds figures discounts r prices →
      (value_by_state_prices_answer prices payoffs).number ≡ 0 →
      ((valuation_error_bound_answer n w discounts r payoffs).number ≡ 0)
      × ShortOf (valuation_error_bound_answer n w discounts r payoffs).value (unit ^ r) (value_by_state_prices_answer prices payoffs).value
      (exact_payoff w discounts r payoffs)
  -- and those are what an accepted fit leaves in the two memories, d and q before it
  pub fit-stored : (f n w h : ℕ) (kinds : List ℕ) (figures : List Float) (d q : List ℕ) (r : ℕ) → r ≤ n →
      Unaltered f n w h kinds figures (fit_memory 0 (fit_discounts f n w h kinds figures) d) r
      (take (node_count w r) (drop (row_start w r) (fit_memory 0 (fit_state_prices f n w h kinds figures) q)))

-- ---- yields by continuous compounding (document 02, request (i))

pub record YieldPromises : Type 0 where
  -- P of a yearly yield is within 100 of the fourth power of the exact series at a quarter of y, held times its denominator
  pub yields-near : (f : ℕ) (p : Point) → (lone_answer f 9 p).number ≡ 0 →
      Within 100 power_scale (lone_answer f 9 p).value (exact_power (yield_amount f p.row (billionths_of p.figure)))
  -- a node's continuous rate is the y that request (i) names, which nothing else is
  pub rates-nearest : (v : ℕ) → (continuous_rate_answer v).number ≡ 0 → Nearest v (continuous_rate_answer v).value
  pub rates-alone : (v : ℕ) → (continuous_rate_answer v).number ≡ 0 → (y : ℤ) → Nearest v y → y ≡ (continuous_rate_answer v).value
  -- wherever it is not zero, its sign is the step rate's
  pub rates-signed : (v : ℕ) → (continuous_rate_answer v).number ≡ 0 → (continuous_rate_answer v).value ≢ pos 0 →
      SameSign (continuous_rate_answer v).value (rate_answer v).value
