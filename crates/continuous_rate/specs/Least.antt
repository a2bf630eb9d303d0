-- The first place of the least value.
-- Assumes nothing.
use Rattle.std.specs.Prelude.{ℕ, zero, suc, cond, ltb}

-- the first of the places 0 to n at which g is least
unfoldable pub first_least : (ℕ → ℕ) → ℕ → ℕ
first_least g zero = 0
first_least g (suc n) = cond (ltb (g (suc n)) (g (first_least g n))) (suc n) (first_least g n)
