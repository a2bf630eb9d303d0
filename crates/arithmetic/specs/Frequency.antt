-- Steps a year (document 01, Terms).
-- Assumes nothing.
use Rattle.std.specs.Prelude.{ℕ, Bool, ◌||◌, eqb}

-- f, steps a year: 1, 2, 4 or 12
unfoldable pub is_frequency : ℕ → Bool
is_frequency f = eqb f 1 || eqb f 2 || eqb f 4 || eqb f 12
