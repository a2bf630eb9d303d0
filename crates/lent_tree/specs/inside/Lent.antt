-- What a private function asks of a tree whose discounts are lent and not looked at yet.
-- Assumes nothing.
use Rattle.std.specs.Prelude.{ℕ, ◌≤◌, List, length}
use Rattle.limits.specs.WithinLimits.{WithinLimits}
use Rattle.lattice.specs.Shape.{row_start}

-- a tree whose discounts have room, before they are judged
pub record Lent (n b : ℕ) (discounts : List ℕ) : Type 0 where
  pub limits : WithinLimits n b
  pub room : row_start b n ≤ length discounts
