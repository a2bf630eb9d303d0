-- F of y, the discount of an amount by continuous compounding (document 02, request (i)), and the entries that answer it.
-- Assumes nothing.
use Rattle.std.specs.Prelude.{ℕ, ◌*◌, ◌^◌, Bool, cond, ltb, ℤ, pos, nat_abs}
use Rattle.std.specs.Int.Signed.{lt_z}
use Rattle.arithmetic.specs.Rounding.{one, round_down}
use Rattle.arithmetic.specs.Answers.{refused, answered}
use Rattle.arithmetic.specs.declared.Answer.{Answer}
use Rattle.factor.specs.Series.{series, term, exact_term, scale}

-- the four-fold limit of y, either way: 4 × one
abbrev pub amount_limit : ℕ
amount_limit = 4000000000

-- q, the magnitude of y divided by 4, down
abbrev pub quarter_of : ℤ → ℕ
quarter_of y = round_down (nat_abs y) 4

-- squared, and divided by one, down
unfoldable pub square_down : ℕ → ℕ
square_down s = round_down (s * s) one

-- squared twice
unfoldable pub fourth_power : ℕ → ℕ
fourth_power s = square_down (square_down s)

-- document 01's series at q, alternating at or above 0 and all positive below, squared twice
unfoldable pub side_discount : ℕ → Bool → ℕ
side_discount q below = fourth_power (series below (term q))

-- F of y, before any range test
unfoldable pub continuous_discount : ℤ → ℕ
continuous_discount y = side_discount (quarter_of y) (lt_z y (pos 0))

-- the fourth power of the same series in exact fractions, times its denominator
unfoldable pub exact_power : ℤ → ℕ
exact_power y = series (lt_z y (pos 0)) (exact_term (quarter_of y)) ^ 4

unfoldable pub power_scale : ℕ
power_scale = scale ^ 4 * one ^ 3

-- what the entry of y answers: cause 7 beyond the limit, or F of y
unfoldable pub continuous_answer : ℤ → Answer
continuous_answer y = cond (ltb amount_limit (nat_abs y)) (refused 7) (answered (continuous_discount y))

-- the same of y = 4 × q or -4 × q, by q and the side
unfoldable pub quotient_answer : ℕ → Bool → Answer
quotient_answer q below = cond (ltb one q) (refused 7) (answered (side_discount q below))
