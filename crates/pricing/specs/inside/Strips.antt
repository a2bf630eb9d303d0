-- What the code holds while it prices a strip of strikes (document 02, request (x)).
-- Assumes nothing.
use Rattle.std.specs.Prelude.{◌≡◌, Bool, List, ℕ, ◌+◌, ◌-◌, ◌≤◌, ◌<◌, length}
use Rattle.arithmetic.specs.Row.{values}
use Rattle.arithmetic.specs.declared.Answer.{Answer}
use Rattle.limits.specs.Limits.{most_discounts, limit_cause}
use Rattle.lattice.specs.Shape.{node_count, row_start}
use Rattle.pricing_laws.specs.Pricer.{Side, exercise, held_or_exercised}
use Rattle.pricing_laws.specs.Schedule.{dates_cause}
use Rattle.exercise_dates.specs.Dates.{marks_of}
use Rattle.pricing.specs.declared.strips.Shared.{Shared}
use Rattle.pricing.specs.declared.walk.Rolled.{Rolled}
use Rattle.price_laws.specs.Prices.{flow_at, tree_cause, bond_value, bond_peak}
use Rattle.pricing.specs.inside.Rows.{rolled_row}
use Rattle.pricing.specs.inside.Trees.{Ready, rolled_at}

-- the bond without the flow of its row
abbrev pub bare_value : ℕ → ℕ → List ℕ → List ℕ → ℕ → ℕ → ℕ
bare_value n b discounts flows i k = bond_value n b discounts flows i k - flow_at flows i

-- rows from one on, to row n - 1, kept without their flows in a memory laid out as the discounts are
abbrev pub KeptFrom : ℕ → ℕ → List ℕ → List ℕ → ℕ → List ℕ → Type 0
KeptFrom n b discounts flows from kept =
    (i k : ℕ) → from ≤ i → i < n → k < node_count b i → values kept (row_start b i + k) ≡ bare_value n b discounts flows i k

-- a row of the bond that has its flow
abbrev pub Paid : List ℕ → ℕ → ℕ → Type 0
Paid bond count flow = (k : ℕ) → k < count → flow ≤ values bond k

-- a row laid from a place on: its values stand there, and what is behind it is as it was
pub record Laid (before after : List ℕ) (start count : ℕ) (f : ℕ → ℕ) : Type 0 where
  pub done : (k : ℕ) → k < count → values after (start + k) ≡ f k
  pub rest : (k : ℕ) → start + count ≤ k → values after k ≡ values before k

-- the bond rolled back to row 0: 12 where a value on the way is above the limit, else every row is kept
pub record BondKept (n b : ℕ) (discounts flows : List ℕ) (number : ℕ) (kept : List ℕ) : Type 0 where
  pub cause : number ≡ limit_cause (bond_peak n b discounts flows)
  pub rows : number ≡ 0 → KeptFrom n b discounts flows 0 kept

-- a row of one option, from its later row and the row of the bond without its flow: as the code rolls it, and on the tree
abbrev pub strike_values : Side → ℕ → Bool → List ℕ → List ℕ → List ℕ → List ℕ → ℕ → ℕ → ℕ
strike_values side strike listed bare options downs discounts next k =
    held_or_exercised listed (rolled_row options downs discounts next k) (exercise side strike (values bare k))

abbrev pub strike_step : Side → ℕ → Bool → ℕ → List ℕ → ℕ → List ℕ → List ℕ → ℕ → ℕ
strike_step side strike listed b discounts i kept options k =
    held_or_exercised listed (rolled_at b discounts i options k) (exercise side strike (values kept (row_start b i + k)))

-- what the roll of one option answers, with the bond's value beside it
abbrev pub beside_bond : ℕ → ℕ → List ℕ → List ℕ → Answer → Rolled
beside_bond n b discounts flows r = record { number = r.number; bond = bond_value n b discounts flows 0 0; option = r.value }

-- what the strikes of a strip share: the tree, the list's cause and marks, and the bond's rows
pub record Shareable (shared : Shared) (dates marks downs discounts flows kept : List ℕ) : Type 0 where
  pub ready : Ready shared.steps shared.reversion downs discounts flows
  pub none : tree_cause shared.steps shared.reversion discounts flows ≡ 0
  pub list-is : shared.list ≡ dates_cause shared.steps dates
  pub marks-are : marks ≡ marks_of dates
  pub bond-is : BondKept shared.steps shared.reversion discounts flows shared.bond kept
  pub room : most_discounts ≤ length kept
