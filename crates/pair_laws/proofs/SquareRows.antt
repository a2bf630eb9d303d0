-- Rows of two accepted trees, from their parts of the lent discounts and of the tables of down-probabilities.
-- Assumes nothing.
use mathlib.Core.Path.{◌≡◌, sym, ap, ap₂, fun_ext, ◌∙◌}
use mathlib.Core.Bool.{Bool, true}
use mathlib.Core.List.{List}
use Prim.Native.Nat.{ℕ, suc, ◌+◌, ◌-◌, ◌*◌, ◌/◌, ◌≤◌, ◌<◌}
use native.Mathlib.Nat.{add-zero}
use native.Mathlib.Omega.{arith}
use lib.ListN.{length, take, drop}
use Rattle.arithmetic.specs.Rounding.{one}
use Rattle.arithmetic.specs.Row.{values}
use Rattle.arithmetic.specs.Sum.{greatest}
use Rattle.arithmetic.proofs.PartLaws.{part-value, part_length}
use Rattle.arithmetic.proofs.RowLaws.{length-row, values-row}
use Rattle.tree.specs.Tree.{probability_total, outgoing}
use Rattle.limits.specs.Limits.{most_discount, value_limit}
use Rattle.lattice.specs.Shape.{node_count, row_start}
use Rattle.lattice.specs.Branching.{down_probability, probabilities}
use Rattle.lattice.specs.RateTree.{node, low, rate_tree}
use Rattle.lattice.specs.declared.RowShape.{RowShape}
use Rattle.lattice.specs.Entries.{table_offset, shape_of, row_shape_answer}
use Rattle.lattice.proofs.Sizes.{half-within, row_ends}
use Rattle.lattice.proofs.RateTreeLaws.{low-within, index-laws}
use Rattle.lattice.proofs.ShapeLaws as shapes
use Rattle.lent_tree.specs.LentTree.{stored, Accepted}
use Rattle.row_branches.specs.RowBranches.{row_branch}
use Rattle.row_branches.proofs.BranchLaws.{backwards}
use Rattle.row_branches.proofs.TableParts as tables
use Rattle.price_bound.proofs.BoundLaws.{discount-within}
use Rattle.price_causes.specs.Causes.{most_flow}
use Rattle.pricing_laws.specs.Pricer.{exercise, held_or_exercised}
use Rattle.pricing_laws.specs.TreePricer.{roll_rounding}
use Rattle.exercise.specs.Terms.{side}
use Rattle.pricing.specs.inside.Rows.{Holds}
use Rattle.pricing.specs.inside.Trees.{down_table}
use Rattle.pair_laws.specs.Pair.{Pair, at, Stands, combined, pair_roll}
use Rattle.pair_laws.specs.PairCauses.{most_pair_steps, AcceptedTrees}
use Rattle.pair_laws.specs.PairPrices.{greatest_pair}
use Rattle.pair_laws.specs.inside.Accepted.{roll_of}
use Rattle.pair_laws.specs.inside.Square.{line_size, square_size, cell, square, LimitedPairs, AtMost, Cells, Most}
use Rattle.pair_laws.specs.inside.Square.{Branched, branch_average, rate_average, spread_value, PairRow, rolled_cell, RollablePair, exercised}
use Rattle.pair_laws.specs.inside.States.{Tables}

-- a row of at most 20 steps fits a line
pub row_fits : (b i : ℕ) → i ≤ most_pair_steps → node_count b i ≤ line_size
unfolding node_count
row_fits b i h = omega (arith, half-within b i)

-- ---- one tree: row i's part of the discounts and of the table

module _ (n b i : ℕ) (discounts : List ℕ) (a : Accepted n b discounts) (hi : i < n) (s : RowShape) (es : s ≡ row_shape_answer b n i) where
  shape : s ≡ shape_of b n i
  shape =
      let few = a.limits.steps-within-limit in
      es ∙ sym (shapes.shape-found b n i a.limits.reversion-within-limit few (omega arith) (omega (arith, few)))

  count-is : s.count ≡ node_count b i
  count-is = ap (λ (x : RowShape). x.count) shape

  start_is : s.start ≡ row_start b i
  start_is = ap (λ (x : RowShape). x.start) shape

  offset-is : s.offset ≡ table_offset b n i
  offset-is = ap (λ (x : RowShape). x.offset) shape

  next-is : s.next ≡ node_count b (suc i)
  next-is = ap (λ (x : RowShape). x.next) shape

  pub next-count : s.next ≡ node_count b (i + 1)
  next-count = next-is ∙ ap (node_count b) (omega arith)

  pub discount-room : s.start + s.count ≤ length discounts
  discount-room = omega (arith, start_is, count-is, row_ends b i n hi, a.room)

  table-size : length (down_table n b) ≡ node_count b n
  unfolding down_table
  table-size = length-row (node_count b n) (λ k. down_probability b (node b n k))

  table-holds : (k : ℕ) → k < node_count b n → values (down_table n b) k ≡ down_probability b (node b n k)
  unfolding down_table
  table-holds k h = values-row (node_count b n) k (λ j. down_probability b (node b n j)) h

  pub table-room : (downs : List ℕ) → downs ≡ down_table n b → s.offset + s.count ≤ length downs
  table-room downs e = rw (e, offset-is, count-is, table-size) (shapes.table-room b n i (omega arith))

  module _ (part : List ℕ) (ep : part ≡ take s.count (drop s.start discounts)) where
    part-is : part ≡ take (node_count b i) (drop (row_start b i) discounts)
    part-is = ep ∙ ap₂ (λ (x y : ℕ). take x (drop y discounts)) count-is start_is

    pub part-size : length part ≡ node_count b i
    part-size = ap length part-is ∙ part_length discounts (row_start b i) (node_count b i) (omega (arith, row_ends b i n hi, a.room))

    pub part_at : (k : ℕ) → k < node_count b i → values part k ≡ stored b discounts i k
    unfolding stored
    part_at k h = ap (λ (x : List ℕ). values x k) part-is ∙ part-value discounts (row_start b i) (node_count b i) k h

    pub part-most : AtMost most_discount part (length part)
    part-most k h =
        let w : k < node_count b i = omega (arith, part-size) in
        omega (arith, part_at k w, discount-within n b i hi discounts a k w)

  module _ (downs : List ℕ) (et : downs ≡ down_table n b) (table : List ℕ) (ed : table ≡ take s.count (drop s.offset downs)) where
    table_is : table ≡ tables.table-part b n i (down_table n b)
    table_is =
        ed
        ∙ ap₂ (λ (x y : ℕ). take x (drop y downs)) count-is offset-is
        ∙ ap (λ (l : List ℕ). take (node_count b i) (drop (table_offset b n i) l)) et

    pub table-count : length table ≡ node_count b i
    table-count = ap length table_is ∙ tables.table-part-length b n i (omega arith) (down_table n b) table-size

    branch-at : (k : ℕ) → k < node_count b i → row_branch table s.next k ≡ record { low = low b i k; probabilities = probabilities b (node b i k) }
    branch-at k h =
        rw (table_is, next-is)
        (tables.part-branch b n i (omega arith) (down_table n b) table-size table-holds a.limits.reversion-within-limit k h)

    pub part-branched : Branched table s.next
    part-branched k h =
        let w : k < node_count b i = omega (arith, table-count) in
        rw (branch-at k w)
        (record {
          inside = omega (arith, low-within b i k w, next-is);
          total = omega (arith, (index-laws b i k w a.limits.reversion-within-limit).total);
        })

    -- the average over a branch is the tree's
    pub average-at :
        (v : ℕ → ℕ) (k : ℕ) → k < node_count b i →
        branch_average (row_branch table s.next k) v ≡ roll_rounding (outgoing ((rate_tree b).step i) v k) probability_total
    unfolding branch_average outgoing rate_tree
    average-at v k h = rw (branch-at k h) (ap (λ (x : ℕ). roll_rounding x probability_total) (backwards _ _ _))

-- ---- both trees

-- the row's parts together
module _ (n b c i : ℕ) (rates spreads : List ℕ) (t : AcceptedTrees n b c rates spreads) (hi : i < n)
    (u v : RowShape) (eu : u ≡ row_shape_answer b n i) (ev : v ≡ row_shape_answer c n i)
    (rd sd : List ℕ) (ts : Tables n b c rd sd) (r : PairRow)
    (erd : r.rate_downs ≡ take u.count (drop u.offset rd)) (esd : r.spread_downs ≡ take v.count (drop v.offset sd))
    (ern : r.rate_next ≡ u.next) (esn : r.spread_next ≡ v.next)
    (er : r.rates ≡ take u.count (drop u.start rates)) (es : r.spreads ≡ take v.count (drop v.start spreads)) where
  rate-count : length r.rates ≡ node_count b i
  rate-count = part-size n b i rates t.rate-tree hi u eu r.rates er

  spread-count : length r.spreads ≡ node_count c i
  spread-count = part-size n c i spreads t.spread-tree hi v ev r.spreads es

  rate-nodes : length r.rate_downs ≡ node_count b i
  rate-nodes = table-count n b i rates t.rate-tree hi u eu rd ts.rate-table r.rate_downs erd

  spread-nodes : length r.spread_downs ≡ node_count c i
  spread-nodes = table-count n c i spreads t.spread-tree hi v ev sd ts.spread-table r.spread_downs esd

  pub pair-rollable : (flow : ℕ) → flow ≤ most_flow → RollablePair r flow
  pair-rollable flow hf =
      record {
        rate-branches = rw ern (part-branched n b i rates t.rate-tree hi u eu rd ts.rate-table r.rate_downs erd);
        spread-branches = rw esn (part-branched n c i spreads t.spread-tree hi v ev sd ts.spread-table r.spread_downs esd);
        rate-count = rate-count ∙ sym rate-nodes;
        spread-count = spread-count ∙ sym spread-nodes;
        rate-line = omega (arith, rate-nodes, row_fits b i (omega (arith, t.few)));
        spread_line = omega (arith, spread-nodes, row_fits c i (omega (arith, t.few)));
        rate-room = omega (arith, ern, next-count n b i rates t.rate-tree hi u eu, row_fits b (i + 1) (omega (arith, t.few)));
        spread-room = omega (arith, esn, next-count n c i spreads t.spread-tree hi v ev, row_fits c (i + 1) (omega (arith, t.few)));
        rate-discounts = part-most n b i rates t.rate-tree hi u eu r.rates er;
        spread-discounts = part-most n c i spreads t.spread-tree hi v ev r.spreads es;
        flow-most = hf;
      }

  pub limited-cells : (xs : List ℕ) → LimitedPairs b c (i + 1) xs → Most value_limit r.rate_next r.spread_next xs
  unfolding square rate_tree
  limited-cells xs h =
      record {
        most = λ a l ha hl.
            h (at a l)
            (record {
              on-rates = omega (arith, ern, next-count n b i rates t.rate-tree hi u eu);
              on-spreads = omega (arith, esn, next-count n c i spreads t.spread-tree hi v ev);
            });
      }

  -- one cell of the code's square is the roll of a pair
  cell-rolled :
      (later : List ℕ) (j l : ℕ) → j < node_count b i → l < node_count c i → rolled_cell r later j l ≡ roll_of b c rates spreads i (square later) (at j l)
  unfolding rolled_cell spread_value rate_average pair_roll combined square
  cell-rolled later j l hj hl =
      let code : ℕ → ℕ = λ q. branch_average (row_branch r.rate_downs r.rate_next j) (λ p. cell later p q) in
      let tree : ℕ → ℕ = λ q. roll_rounding (outgoing ((rate_tree b).step i) (λ p. cell later p q) j) probability_total in
      let rate : code ≡ tree
      = fun_ext (λ q. rw ern (average-at n b i rates t.rate-tree hi u eu rd ts.rate-table r.rate_downs erd (λ p. cell later p q) j hj)) in
      let spread = average-at n c i spreads t.spread-tree hi v ev sd ts.spread-table r.spread_downs esd tree l hl in
      let d : values r.rates j * values r.spreads l / one ≡ stored b rates i j * stored c spreads i l / one
      = ap₂ (λ (x y : ℕ). x * y / one) (part_at n b i rates t.rate-tree hi u eu r.rates er j hj)
      (part_at n c i spreads t.spread-tree hi v ev r.spreads es l hl) in
      ap₂ (λ (x y : ℕ). roll_rounding (x * y) one)
      (ap (λ (f : ℕ → ℕ). branch_average (row_branch r.spread_downs r.spread_next l) f) rate
      ∙ ap (λ (m : ℕ). branch_average (row_branch r.spread_downs m l) tree) esn ∙ spread)
      d

  pub pairs-rolled :
      (later after : List ℕ) (flow : ℕ) → Cells (λ a l. rolled_cell r later a l + flow) (length r.rates) (length r.spreads) after →
      (k : Pair) → Stands (rate_tree b) (rate_tree c) i k → square after k ≡ roll_of b c rates spreads i (square later) k + flow
  unfolding square rate_tree
  pairs-rolled later after flow cells k hk =
      cells.same k.rate k.spread (omega (arith, rate-count, hk.on-rates)) (omega (arith, spread-count, hk.on-spreads))
      ∙ ap (λ (x : ℕ). x + flow) (cell-rolled later k.rate k.spread hk.on-rates hk.on-spreads)

-- ---- squares and rows

-- a pair of a row inside the square
pub pair_place : (b c i : ℕ) (k : Pair) → i ≤ most_pair_steps → Stands (rate_tree b) (rate_tree c) i k → line_size * k.rate + k.spread < square_size
unfolding rate_tree
pair_place b c i k h hk = omega (arith, hk.on-rates, hk.on-spreads, row_fits b i h, row_fits c i h)

-- and in the first lines
pub pair_line :
    (b c i lines : ℕ) (k : Pair) → i ≤ most_pair_steps → lines ≡ node_count b i → Stands (rate_tree b) (rate_tree c) i k →
    line_size * k.rate + k.spread < line_size * lines
unfolding rate_tree
pair_line b c i lines k h e hk = omega (arith, e, hk.on-rates, hk.on-spreads, row_fits c i h)

-- the greatest value of a row, from what the code goes through
pub greatest-row :
    (b c i lines width x : ℕ) (xs : List ℕ) → lines ≡ node_count b i → width ≡ node_count c i →
    x ≡ greatest lines (λ a. greatest width (λ l. cell xs a l)) → x ≡ greatest_pair b c i (square xs)
unfolding greatest_pair square
greatest-row b c i lines width x xs el ew e = e ∙ rw (el, ew)

-- a row of the option, rolled and then exercised
pub option-from :
    (b c i lines : ℕ) (listed call : Bool) (strike flow : ℕ) (out mid bonds : List ℕ) (r : Pair → ℕ) → i ≤ most_pair_steps → lines ≡ node_count b i →
    Holds out (line_size * lines) (λ k. exercised listed call strike flow (values mid k) (values bonds k)) →
    ((k : Pair) → Stands (rate_tree b) (rate_tree c) i k → square mid k ≡ r k + 0) →
    (k : Pair) → Stands (rate_tree b) (rate_tree c) i k → square out k ≡ held_or_exercised listed (r k) (exercise (side call) strike (square bonds k - flow))
unfolding square exercised
option-from b c i lines listed call strike flow out mid bonds r hi el h er k hk =
    h _ (pair_line b c i lines k hi el hk)
    ∙ ap (λ (x : ℕ). held_or_exercised listed x (exercise (side call) strike (square bonds k - flow))) (er k hk ∙ add-zero (r k))

-- the last row: exercise beside a square of zeros
pub expiry-from :
    (b c i lines : ℕ) (call : Bool) (strike flow : ℕ) (out zeros bonds : List ℕ) → i ≤ most_pair_steps → lines ≡ node_count b i →
    Holds zeros square_size (λ k. 0) → Holds out (line_size * lines) (λ k. exercised true call strike flow (values zeros k) (values bonds k)) →
    (k : Pair) → Stands (rate_tree b) (rate_tree c) i k → square out k ≡ exercise (side call) strike (square bonds k - flow)
unfolding square exercised held_or_exercised
expiry-from b c i lines call strike flow out zeros bonds hi el hz h k hk =
    h _ (pair_line b c i lines k hi el hk) ∙ rw (hz _ (pair_place b c i k hi hk)) (omega arith)
