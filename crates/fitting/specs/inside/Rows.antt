-- The step of a row that stands in two memories, and what it leaves in them.
-- Assumes nothing.
use Rattle.std.specs.Prelude.{◌≡◌, Bool, true, cond, List, ℕ, ◌+◌, ◌-◌, length, take, drop}
use Rattle.arithmetic.specs.Row.{row, values, place, each}
use Rattle.tree.specs.Tree.{Transition, incoming}
use Rattle.row_branches.specs.inside.Transitions.{row_transition}
use Rattle.limits.specs.Limits.{is_discount}
use Rattle.lattice.specs.Entries.{table_offset}
use Rattle.fit_laws.specs.Step.{discount, carried, next_state_price}

-- the factors of row i from a table of the widest row that has discounts, row n − 1
unfoldable pub table_factor : ℕ → ℕ → List ℕ → ℕ → ℕ → ℕ
table_factor b n factors i k = values factors (table_offset b (n - 1) i + k)

-- the state prices of the row of so many nodes that starts at a place of a memory, and the discounts that follow from them
abbrev pub part_values : ℕ → ℕ → List ℕ → ℕ → ℕ
part_values start count state-prices = values (take count (drop start state-prices))

abbrev pub row_discounts : ℕ → ℕ → ℕ → (ℕ → ℕ) → List ℕ → ℕ → ℕ
row_discounts start count quote factor state-prices = discount count (part_values start count state-prices) factor quote

-- what the step of a row leaves: its discounts, and the sums over the branches into each node of the next row
pub record RowStepped (quote next : ℕ) (state-prices factors downs discounts' sums' : List ℕ) (accepted : Bool) : Type 0 where
  pub tested : accepted ≡ each (length state-prices) (λ k. is_discount (discount (length state-prices) (values state-prices) (values factors) quote k))
  pub filled : accepted ≡ true → discounts' ≡ row (length state-prices) (discount (length state-prices) (values state-prices) (values factors) quote)
  pub spreads : accepted ≡ true → sums' ≡ row next (incoming (row_transition downs next) (length state-prices)
      (carried (values state-prices) (discount (length state-prices) (values state-prices) (values factors) quote)))

-- what it leaves in the memories, in both of which the row starts at the same place: where every discount is accepted, the row's discounts
-- and the next row's state prices. Nothing past the row changes among the discounts, and no state price where a discount is not accepted.
pub record RowFitted (start count next quote : ℕ) (factor : ℕ → ℕ) (t : Transition)
    (discounts state-prices discounts' state-prices' : List ℕ) (accepted : Bool) : Type 0 where
  pub tested : accepted ≡ each count (λ k. is_discount (row_discounts start count quote factor state-prices k))
  pub filled : accepted ≡ true → discounts' ≡ place discounts start (row count (row_discounts start count quote factor state-prices))
  pub kept : drop (start + count) discounts' ≡ drop (start + count) discounts
  pub stepped : state-prices' ≡ cond accepted (place state-prices (start + count) (row next
      (next_state_price t count (part_values start count state-prices) (row_discounts start count quote factor state-prices)))) state-prices
