-- The decimals of a number as text, apart from its whole part.
-- Assumes nothing.
use Rattle.std.specs.Prelude.{ℕ, zero, suc, List, [], ◌∷◌}
use Rattle.text_laws.specs.Decimal.{last_digits}

-- the point and the k decimals of n over 10 ^ k; without decimals there is no point
unfoldable pub fraction : ℕ → ℕ → List ℕ
fraction zero n = []
fraction (suc k) n = 46 ∷ last_digits (suc k) n
