-- A tree whose discounts are lent (document 01, When the engine declines): the causes about its numbers and its discounts.
-- Assumes nothing.
use Rattle.std.specs.Prelude.{ℕ, ◌+◌, ◌≤◌, ◌<◌, Bool, cond, List, eqb, leb, length, take, drop}
use Rattle.arithmetic.specs.Row.{values}
use Rattle.limits.specs.Limits.{most_discount, shape_cause, all_discounts}
use Rattle.limits.specs.WithinLimits.{WithinLimits}
use Rattle.lattice.specs.Shape.{node_count, row_start, discounts_needed}

-- what a memory that stores row after row, lowest node first, holds for row i, by node
unfoldable pub stored : ℕ → List ℕ → ℕ → ℕ → ℕ
stored b memory i = λ k. values memory (row_start b i + k)

-- and as the part of the memory that contains it
unfoldable pub stored_row : ℕ → List ℕ → ℕ → List ℕ
stored_row b memory i = take (node_count b i) (drop (row_start b i) memory)

-- every node discount of the needed part, rows 0 to n − 1, is 1 to 1,100,000,000
unfoldable pub accepted_discounts : ℕ → ℕ → List ℕ → Bool
accepted_discounts n b discounts = all_discounts (discounts_needed n b) discounts

-- 3 and 4 about the numbers, 6 for too short a memory, whatever it holds; 0 where there is none
unfoldable pub room_cause : ℕ → ℕ → List ℕ → ℕ
room_cause n b discounts = cond (eqb (shape_cause n b) 0) (cond (leb (discounts_needed n b) (length discounts)) 0 6) (shape_cause n b)

-- 3 and 4 about the numbers, 6 for too short a memory, 9 for a discount, lowest number first; 0 where there is none
unfoldable pub discounts_cause : ℕ → ℕ → List ℕ → ℕ
discounts_cause n b discounts =
    cond (eqb (shape_cause n b) 0)
    (cond (leb (discounts_needed n b) (length discounts))
    (cond (accepted_discounts n b discounts) 0 9)
    6)
    (shape_cause n b)

-- a tree and its discounts after the causes were tested
pub record Accepted (n b : ℕ) (discounts : List ℕ) : Type 0 where
  pub limits : WithinLimits n b
  pub room : row_start b n ≤ length discounts
  pub positive : (k : ℕ) → k < row_start b n → 1 ≤ values discounts k
  pub discounted : (k : ℕ) → k < row_start b n → values discounts k ≤ most_discount
