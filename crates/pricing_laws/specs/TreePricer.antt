-- The engine and the exact pricer on any tree. A node is its index in the row; discounts by row and index.
-- Assumes nothing.
use Rattle.std.specs.Prelude.{ℕ, ◌*◌}
use Rattle.arithmetic.specs.Rounding.{one, nearest}
use Rattle.arithmetic.specs.Sum.{greatest}
use Rattle.tree.specs.Tree.{Tree, Transition, outgoing, probability_total, unit}
use Rattle.pricing_laws.specs.Pricer.{Pricer, rounded, fractions, error_bound}

-- the rounding of both divisions of a roll: nearest, each for itself (document 02, request (vi))
abbrev pub roll_rounding : ℕ → ℕ → ℕ
roll_rounding = nearest

-- what the error bound adds for the two divisions of a roll
abbrev pub roll_loss : ℕ
roll_loss = 2

-- the roll of a node: the sum of probability × later value, divided by 600,000,000; then × discount, divided by one
unfoldable pub node_roll : (ℕ → ℕ → ℕ) → Transition → (ℕ → ℕ) → ℕ → ℕ → ℕ
node_roll divide step later discount k = divide (divide (outgoing step later k) probability_total * discount) one

module _ (t : Tree) (discount : ℕ → ℕ → ℕ) where
  -- the roll from row i + 1 to row i
  unfoldable pub roll : (ℕ → ℕ → ℕ) → ℕ → (ℕ → ℕ) → ℕ → ℕ
  roll divide i v k = node_roll divide (t.step i) v (discount i k) k

  -- the same in exact fractions, times unit
  unfoldable pub exact_roll : ℕ → (ℕ → ℕ) → ℕ → ℕ
  exact_roll i v k = discount i k * outgoing (t.step i) v k

  abbrev pub engine : Pricer ℕ
  engine = rounded (roll roll_rounding)

  abbrev pub exact : Pricer ℕ
  exact = fractions unit exact_roll

  -- G(i): the greatest discount of row i
  unfoldable pub greatest_discount : ℕ → ℕ
  greatest_discount i = greatest (t.nodes i) (discount i)

  -- the price allowance at row i of a tree of n steps
  abbrev pub price_error_bound : ℕ → ℕ → ℕ
  price_error_bound = error_bound roll_loss greatest_discount
