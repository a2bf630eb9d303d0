-- What the functions of the fit ask of their callers in this crate. No entry asks any of it: `fit` tests the causes first.
-- Assumes nothing.
use Rattle.std.specs.Prelude.{◌≡◌, List, ℕ, suc, ◌+◌, ◌-◌, ◌*◌, ◌≤◌, ◌<◌, length}
use Rattle.limits.specs.WithinLimits.{WithinLimits}
use Rattle.arithmetic.specs.Rounding.{one}
use Rattle.arithmetic.specs.Sum.{sum}
use Rattle.arithmetic.specs.Row.{values}
use Rattle.tree.specs.Tree.{Inside, Total, probability_total}
use Rattle.limits.specs.Limits.{most_nodes, least_quote, most_quote}
use Rattle.lattice.specs.Shape.{half_width, node_count, row_start}
use Rattle.lattice.specs.Branching.{down_probability}
use Rattle.lattice.specs.RateTree.{node}
use Rattle.row_branches.specs.declared.RowBranch.{RowBranch}
use Rattle.row_branches.specs.inside.Transitions.{branch_total, row_transition}
use Rattle.fit_laws.specs.inside.Bounds.{least_factor, most_factor, least_row_sum, most_row_sum, most_carried, most_incoming}
use Rattle.fitting.specs.inside.Rows.{part_values}

-- the factors of a row of n nodes, within the bounds of the series
pub record Factors (u : List ℕ) (n : ℕ) : Type 0 where
  pub length-is : length u ≡ n
  pub at_least : (k : ℕ) → k < n → least_factor ≤ values u k
  pub at_most : (k : ℕ) → k < n → values u k ≤ most_factor

-- a row's state prices, its part of the tables, the next row's quote, and the lengths of its discounts and of the next row
pub record StepReady (quote : ℕ) (state-prices factors downs : List ℕ) (discounts next : ℕ) : Type 0 where
  pub factors-bounded : Factors factors (length state-prices)
  pub downs-length : length downs ≡ length state-prices
  pub discounts-length : discounts ≡ length state-prices
  pub branches-inside : Inside (row_transition downs next) (length state-prices) next
  pub branches-total : Total (row_transition downs next) (length state-prices)
  pub row-sum-least : least_row_sum ≤ sum (length state-prices) (values state-prices)
  pub row-sum-most : sum (length state-prices) (values state-prices) ≤ most_row_sum
  pub quote-within-limit : quote ≤ most_quote

-- a branch of a row, and the amount that it hands on to the sums of the next row
pub record SpreadReady (branch : RowBranch) (amount : ℕ) (sums : List ℕ) : Type 0 where
  pub branch-inside : branch.low + 2 < length sums
  pub branch-most : branch_total branch ≤ probability_total
  pub amount-most : amount ≤ most_carried
  pub sums-most : (j : ℕ) → j < length sums → values sums j ≤ most_incoming

-- a row that starts at a place of both memories, its part of the tables, the next row's node count and quote
pub record RowReady (at next quote : ℕ) (factors downs discounts state-prices sums : List ℕ) : Type 0 where
  pub factors-bounded : Factors factors (length factors)
  pub downs-length : length downs ≡ length factors
  pub branches-inside : Inside (row_transition downs next) (length factors) next
  pub branches-total : Total (row_transition downs next) (length factors)
  pub room-discounts : at + length factors ≤ length discounts
  pub room-state-prices : at + length factors + next ≤ length state-prices
  pub room-sums : next ≤ length sums
  pub row-sum-least : least_row_sum ≤ sum (length factors) (part_values at (length factors) state-prices)
  pub row-sum-most : sum (length factors) (part_values at (length factors) state-prices) ≤ most_row_sum
  pub quote-within-limit : quote ≤ most_quote

-- the tables of a tree of n steps and reversion b, as long as row n − 1
pub record Tables (b n : ℕ) (factors downs : List ℕ) : Type 0 where
  pub limits : WithinLimits n b
  pub factors-bounded : Factors factors (node_count b (n - 1))
  pub downs-length : length downs ≡ node_count b (n - 1)
  pub downs-hold : (k : ℕ) → k < node_count b (n - 1) → values downs k ≡ down_probability b (node b (n - 1) k)

-- row i of a tree, before its step
pub record TreeRowReady (b n i quote : ℕ) (factors downs discounts state-prices sums : List ℕ) : Type 0 where
  pub tables : Tables b n factors downs
  pub in_tree : i < n
  pub room-discounts : row_start b n ≤ length discounts
  pub room-state-prices : row_start b (suc n) ≤ length state-prices
  pub room-sums : most_nodes ≤ length sums
  pub row-sum-least : least_row_sum ≤ sum (node_count b i) (part_values (row_start b i) (node_count b i) state-prices)
  pub row-sum-most : sum (node_count b i) (part_values (row_start b i) (node_count b i) state-prices) ≤ most_row_sum
  pub quote-within-limit : quote ≤ most_quote

-- a fit from tables: quotes within their range, and room for the tree in both memories and for a row's sums
pub record RowsReady (b : ℕ) (quotes factors downs discounts state-prices sums : List ℕ) : Type 0 where
  pub tables : Tables b (length quotes) factors downs
  pub quotes-least : (i : ℕ) → i < length quotes → least_quote ≤ values quotes i
  pub quotes-most : (i : ℕ) → i < length quotes → values quotes i ≤ most_quote
  pub room-discounts : row_start b (length quotes) ≤ length discounts
  pub room-state-prices : row_start b (suc (length quotes)) ≤ length state-prices
  pub room-sums : most_nodes ≤ length sums

-- a fit of converted quotes, once causes 2 to 8 were tested: w is the half width of row n − 1, and the memories have these lengths
pub record QuotesReady (b h w : ℕ) (quotes : List ℕ) (discounts state-prices : ℕ) : Type 0 where
  pub limits : WithinLimits (length quotes) b
  pub widest-is : w ≡ half_width b (length quotes - 1)
  pub spacing-within-one : w * h ≤ one
  pub quotes-least : (i : ℕ) → i < length quotes → least_quote ≤ values quotes i
  pub quotes-most : (i : ℕ) → i < length quotes → values quotes i ≤ most_quote
  pub room-discounts : row_start b (length quotes) ≤ discounts
  pub room-state-prices : row_start b (suc (length quotes)) ≤ state-prices
