-- One row, as the code holds it: the later row, the row's discounts, and the row's part of the table of down-probabilities.
-- Assumes nothing.
use Rattle.std.specs.Prelude.{◌≡◌, Bool, cond, List, [], ◌∷◌, ℕ, ◌+◌, ◌-◌, ◌*◌, ◌≤◌, ◌<◌, max, ltb, length}
use Rattle.arithmetic.specs.Rounding.{one}
use Rattle.arithmetic.specs.Row.{values}
use Rattle.arithmetic.specs.Sum.{greatest}
use Rattle.tree.specs.Tree.{probability_total}
use Rattle.limits.specs.Limits.{most_discount, value_limit}
use Rattle.pricing_laws.specs.Pricer.{Side, exercise, held_or_exercised}
use Rattle.pricing_laws.specs.TreePricer.{roll_rounding}
use Rattle.row_branches.specs.declared.RowBranch.{RowBranch}
use Rattle.row_branches.specs.RowBranches.{opposite, row_branch}
use Rattle.row_branches.specs.inside.Transitions.{branch_up, branch_middle, branch_down, branch_total}
use Rattle.pricing.specs.declared.rows.Span.{Span}

-- the sum over a branch of probability × later value: up, middle, down
abbrev pub branch_sum : RowBranch → (ℕ → ℕ) → ℕ
branch_sum b later = branch_up b * later (b.low + 2) + branch_middle b * later (b.low + 1) + branch_down b * later b.low

-- the roll of a node along its branch
unfoldable pub branch_roll : RowBranch → (ℕ → ℕ) → ℕ → ℕ
branch_roll b later discount = roll_rounding (roll_rounding (branch_sum b later) probability_total * discount) one

-- the most that it comes to: a value at the limit, by the greatest discount
abbrev pub most_roll : ℕ
most_roll = 8800000000

-- the later row rolled back
unfoldable pub rolled_row : List ℕ → List ℕ → List ℕ → ℕ → ℕ → ℕ
rolled_row later downs discounts next k = branch_roll (row_branch downs next k) (values later) (values discounts k)

-- a row of the bond: rolled back, with its flow
abbrev pub bond_values : List ℕ → List ℕ → List ℕ → ℕ → ℕ → ℕ → ℕ
bond_values later downs discounts next flow k = rolled_row later downs discounts next k + flow

-- a row of the option, from the later rows of bond and option
abbrev pub option_values : Side → ℕ → Bool → List ℕ → List ℕ → List ℕ → List ℕ → ℕ → ℕ → ℕ
option_values side strike listed bonds options downs discounts next k =
    held_or_exercised listed (rolled_row options downs discounts next k) (exercise side strike (rolled_row bonds downs discounts next k))

-- What the code asks of a row.
pub record Rollable (downs discounts : List ℕ) (next : ℕ) : Type 0 where
  pub some : 0 < length discounts
  pub paired : length downs ≡ length discounts
  pub inside : (k : ℕ) → k < length discounts → (row_branch downs next k).low + 2 < next
  pub total : (k : ℕ) → k < length discounts → branch_total (row_branch downs next k) ≡ probability_total
  pub discounted : (k : ℕ) → k < length discounts → values discounts k ≤ most_discount

-- the spans of a row whose next row is wider, and of any other row
abbrev pub growing_span : ℕ → ℕ → Span
growing_span count next = record { next = next; from = 0; to = count; shift = 0 }

abbrev pub lowest_span : ℕ → Span
lowest_span next = record { next = next; from = 0; to = 1; shift = 0 }

abbrev pub inner_span : ℕ → ℕ → Span
inner_span count next = record { next = next; from = 1; to = count - 1; shift = 1 }

abbrev pub highest_span : ℕ → ℕ → Span
highest_span count next = record { next = next; from = count - 1; to = count; shift = 2 }

-- the nodes on each edge of a row that branch inwards, and those between the edges
abbrev pub edge_nodes : ℕ → ℕ → ℕ
edge_nodes count next = cond (ltb count next) 0 1

abbrev pub between_edges : ℕ → ℕ → ℕ → Span
between_edges edge count next = record { next = next; from = edge; to = count - edge; shift = edge }

-- a node's branch by the shift of its span
abbrev pub span_branch : List ℕ → ℕ → ℕ → RowBranch
span_branch downs shift k =
    record { low = k - shift; probabilities = opposite downs k ∷ (probability_total - values downs k - opposite downs k) ∷ values downs k ∷ [] }

-- a span of a row, and where its nodes lead
pub record Leads (downs : List ℕ) (span : Span) (count : ℕ) : Type 0 where
  pub ordered : span.from ≤ span.to
  pub ends : span.to ≤ count
  pub shifted : span.shift ≤ span.from
  pub leads : (k : ℕ) → span.from ≤ k → k < span.to → (row_branch downs span.next k).low ≡ k - span.shift

-- the first values of a list are at most the limit
abbrev pub Limited : List ℕ → ℕ → Type 0
Limited l count = (k : ℕ) → k < count → values l k ≤ value_limit

-- a later row that may be rolled back
pub record Later (l : List ℕ) (count : ℕ) : Type 0 where
  pub room : count ≤ length l
  pub limited : Limited l count

-- the first values of a list are those of a row
abbrev pub Holds : List ℕ → ℕ → (ℕ → ℕ) → Type 0
Holds l count f = (k : ℕ) → k < count → values l k ≡ f k

-- What the code leaves: a row of the bond and its greatest value; the rows of bond and option and the greatest value of both.
pub record FilledRow (row : List ℕ) (count : ℕ) (f : ℕ → ℕ) (top : ℕ) : Type 0 where
  pub held : Holds row count f
  pub found : top ≡ greatest count f

pub record FilledRows (bond option : List ℕ) (count : ℕ) (f g : ℕ → ℕ) (top : ℕ) : Type 0 where
  pub bond-held : Holds bond count f
  pub option-held : Holds option count g
  pub found : top ≡ greatest count (λ k. max (f k) (g k))
