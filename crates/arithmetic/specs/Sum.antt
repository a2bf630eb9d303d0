-- A row is a function of the index, lowest node first, with its node count. Its sum and its greatest value.
-- Assumes nothing.
use Rattle.std.specs.Prelude.{ℕ, zero, suc, ◌+◌, max, cond, eqb}

-- f 0 + .. + f (n - 1)
unfoldable pub sum : ℕ → (ℕ → ℕ) → ℕ
sum zero f = 0
sum (suc n) f = sum n f + f n

-- the greatest of f 0, .., f (n - 1); 0 where n is 0
unfoldable pub greatest : ℕ → (ℕ → ℕ) → ℕ
greatest zero f = 0
greatest (suc n) f = max (greatest n f) (f n)

-- x where the two indices are the same, else 0
unfoldable pub only : ℕ → ℕ → ℕ → ℕ
only a b x = cond (eqb a b) x 0
