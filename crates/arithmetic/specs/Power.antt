-- The table of powers of ten (document 01, Quotes): 1 to 10^18.
-- Assumes nothing.
use Rattle.std.specs.Prelude.{ℕ, ◌^◌, cond, ltb}

-- the power of ten that the table holds, 0 past its end
unfoldable pub power_of_ten : ℕ → ℕ
power_of_ten exponent = cond (ltb exponent 19) (10 ^ exponent) 0
