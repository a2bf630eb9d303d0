-- A square of values in memory, as the code holds it: a line of 41 places for each node of the rate side, which is room for every row of 20 steps.
-- Assumes nothing.
use Rattle.std.specs.Prelude.{ℕ, ◌+◌, ◌-◌, ◌*◌, ◌/◌, ◌≤◌, ◌<◌, ◌≡◌, Bool, List, length}
use Rattle.arithmetic.specs.Rounding.{one}
use Rattle.arithmetic.specs.Row.{values}
use Rattle.tree.specs.Tree.{probability_total}
use Rattle.limits.specs.Limits.{most_discount, value_limit}
use Rattle.lattice.specs.RateTree.{rate_tree}
use Rattle.pricing_laws.specs.Pricer.{exercise, held_or_exercised}
use Rattle.pricing_laws.specs.TreePricer.{roll_rounding}
use Rattle.exercise.specs.Terms.{side}
use Rattle.row_branches.specs.declared.RowBranch.{RowBranch}
use Rattle.row_branches.specs.RowBranches.{row_branch}
use Rattle.row_branches.specs.inside.Transitions.{branch_total}
use Rattle.price_causes.specs.Causes.{most_flow}
use Rattle.pricing.specs.inside.Rows.{branch_sum}
use Rattle.pair_laws.specs.Pair.{Pair, Stands}

-- the places of a line and of a square
abbrev pub line_size : ℕ
line_size = 41

abbrev pub square_size : ℕ
square_size = 1681

-- the value at node a of the rates and node l of the spreads
abbrev pub cell : List ℕ → ℕ → ℕ → ℕ
cell xs a l = values xs (line_size * a + l)

unfoldable pub square : List ℕ → Pair → ℕ
square xs k = cell xs k.rate k.spread

-- no value of row i is above the limit
abbrev pub LimitedPairs : ℕ → ℕ → ℕ → List ℕ → Type 0
LimitedPairs b c i xs = (k : Pair) → Stands (rate_tree b) (rate_tree c) i k → square xs k ≤ value_limit

-- each of the first count numbers of a list is at most g
abbrev pub AtMost : ℕ → List ℕ → ℕ → Type 0
AtMost g xs count = (k : ℕ) → k < count → values xs k ≤ g

-- the first cells of the first lines are those of f
pub record Cells (f : ℕ → ℕ → ℕ) (lines width : ℕ) (xs : List ℕ) : Type 0 where
  pub same : (a l : ℕ) → a < lines → l < width → cell xs a l ≡ f a l

-- and are at most g
pub record Most (g lines width : ℕ) (xs : List ℕ) : Type 0 where
  pub most : (a l : ℕ) → a < lines → l < width → cell xs a l ≤ g

-- line j is written from place 0 to place l, and what stands before it is as it was
pub record Line (j : ℕ) (f : ℕ → ℕ) (before after : List ℕ) (l : ℕ) : Type 0 where
  pub kept : (t : ℕ) → t < line_size * j → values after t ≡ values before t
  pub line : (t : ℕ) → t < l → cell after j t ≡ f t

-- column l is written from line 0 to line a, and the other columns are as they were
pub record Column (l : ℕ) (f : ℕ → ℕ) (before after : List ℕ) (a : ℕ) : Type 0 where
  pub kept : (t q : ℕ) → q < line_size → (q ≡ l → ⊥) → cell after t q ≡ cell before t q
  pub column : (t : ℕ) → t < a → cell after t l ≡ f t

-- a branch that stays inside a line or a square, and is whole
pub record Leads (b : RowBranch) (next : ℕ) : Type 0 where
  pub inside : b.low + 2 < next
  pub total : branch_total b ≡ probability_total

-- so does each branch of a row
abbrev pub Branched : List ℕ → ℕ → Type 0
Branched downs next = (k : ℕ) → k < length downs → Leads (row_branch downs next k) next

-- the average over a branch
unfoldable pub branch_average : RowBranch → (ℕ → ℕ) → ℕ
branch_average b later = roll_rounding (branch_sum b later) probability_total

-- along the rate side at node j of the rates, over the column of node l of the spreads
unfoldable pub rate_average : List ℕ → ℕ → List ℕ → ℕ → ℕ → ℕ
rate_average downs next later j l = branch_average (row_branch downs next j) (λ a. cell later a l)

-- along the spread side, then discounted by d × e / one, down
unfoldable pub spread_value : RowBranch → ℕ → ℕ → (ℕ → ℕ) → ℕ
spread_value b d e middle = roll_rounding (branch_average b middle * (d * e / one)) one

-- a row as the code holds it: its part of each tree's table and discounts, and the nodes of the next row
pub record PairRow : Type 0 where
  pub rate_downs : List ℕ
  pub spread_downs : List ℕ
  pub rate_next : ℕ
  pub spread_next : ℕ
  pub rates : List ℕ
  pub spreads : List ℕ

-- the later square rolled into the row
unfoldable pub rolled_cell : PairRow → List ℕ → ℕ → ℕ → ℕ
rolled_cell r later a l =
    spread_value (row_branch r.spread_downs r.spread_next l) (values r.rates a) (values r.spreads l)
    (rate_average r.rate_downs r.rate_next later a)

-- What the code asks of a row.
pub record RollablePair (r : PairRow) (flow : ℕ) : Type 0 where
  pub rate-branches : Branched r.rate_downs r.rate_next
  pub spread-branches : Branched r.spread_downs r.spread_next
  pub rate-count : length r.rates ≡ length r.rate_downs
  pub spread-count : length r.spreads ≡ length r.spread_downs
  pub rate-line : length r.rate_downs ≤ line_size
  pub spread_line : length r.spread_downs ≤ line_size
  pub rate-room : r.rate_next ≤ line_size
  pub spread-room : r.spread_next ≤ line_size
  pub rate-discounts : AtMost most_discount r.rates (length r.rates)
  pub spread-discounts : AtMost most_discount r.spreads (length r.spreads)
  pub flow-most : flow ≤ most_flow

-- a place of the option's row, from its rolled value and the bond with its flow
unfoldable pub exercised : Bool → Bool → ℕ → ℕ → ℕ → ℕ → ℕ
exercised listed call strike flow rolled value = held_or_exercised listed rolled (exercise (side call) strike (value - flow))
