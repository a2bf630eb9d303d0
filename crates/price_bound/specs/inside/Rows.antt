-- A row's discounts, and what the code asks of greatest discounts: those of an accepted tree, whose error bounds stay small.
-- Assumes nothing.
use Rattle.std.specs.Prelude.{Bool, List, ℕ, ◌≤◌, ◌<◌}
use Rattle.arithmetic.specs.Row.{values, each}
use Rattle.limits.specs.Limits.{most_steps, most_discount, is_discount}
use Rattle.lattice.specs.Shape.{node_count}
use Rattle.lent_tree.specs.LentTree.{stored}
use Rattle.pricing_laws.specs.Pricer.{error_bound}
use Rattle.pricing_laws.specs.TreePricer.{roll_loss}

-- whether every discount of a row is accepted
abbrev pub row_accepted : ℕ → List ℕ → ℕ → Bool
row_accepted b discounts i = each (node_count b i) (λ k. is_discount (stored b discounts i k))

pub record RowsBounded (n : ℕ) (rows : List ℕ) : Type 0 where
  pub steps-within-limit : n ≤ most_steps
  pub discounted : (i : ℕ) → i < n → values rows i ≤ most_discount
  pub bounds-small : (i : ℕ) → i ≤ n → error_bound roll_loss (values rows) n i ≤ 1000000
