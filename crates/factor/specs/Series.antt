-- The series of a factor, rounded and in exact fractions (document 01, Spacing and fit, second point).
-- Assumes nothing.
use Rattle.std.specs.Prelude.{ℕ, zero, suc, ◌+◌, ◌-◌, ◌*◌, ◌^◌, Bool, true, false}
use Rattle.arithmetic.specs.Rounding.{one, round_down}
use Rattle.arithmetic.specs.Sum.{sum}

-- term 0 is one; term k is (term k-1) × y / (k × one), down
unfoldable pub term : ℕ → ℕ → ℕ
term y zero = one
term y (suc k) = round_down (term y k * y) (suc k * one)

-- the terms of even place, and of odd place
abbrev pub even : (ℕ → ℕ) → ℕ → ℕ
even t i = t (2 * i)

abbrev pub odd : (ℕ → ℕ) → ℕ → ℕ
odd t i = t (2 * i + 1)

-- terms 0 to 12 of any series: their sum (true), or their sum with alternating signs (false)
unfoldable pub series : Bool → (ℕ → ℕ) → ℕ
series true t = sum 13 t
series false t = sum 7 (even t) - sum 6 (odd t)

-- the product of d numbers from 12 downwards
unfoldable pub falling : ℕ → ℕ
falling zero = 1
falling (suc d) = (12 - d) * falling d

-- 12! × one^11: an exact series is held times this
unfoldable pub scale : ℕ
scale = falling 12 * one ^ 11

-- term k in exact fractions, one × (y / one)^k / k!, times 12! × one^11
unfoldable pub exact_term : ℕ → ℕ → ℕ
exact_term y k = y ^ k * (falling (12 - k) * one ^ (12 - k))
