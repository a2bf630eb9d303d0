-- The bounds that the steps of a fit keep, in billionths, each with its reason. By them no product and no sum of the fit reaches 2^64.
-- Assumes nothing.
use Rattle.std.specs.Prelude.{ℕ}

-- a factor is a power of e with an exponent from −1 to 1, since cause 8 was tested: from 0.3678.. to 2.7182.., with room for the series' rounding
abbrev pub least_factor : ℕ
least_factor = 360000000

abbrev pub most_factor : ℕ
most_factor = 2720000000

-- row 0 has the state price one, and every later row's state prices sum to its quote within 300
abbrev pub least_row_sum : ℕ
least_row_sum = 99999700

abbrev pub most_row_sum : ℕ
most_row_sum = 2000000300

-- what a row carries is at most its state prices times the greatest discount that is accepted, 1.1
abbrev pub most_carried : ℕ
most_carried = 2200000330

-- each of the sums over branches is at most the probabilities' denominator, 600,000,000, times what the row carries: 1.32 × 10^18
abbrev pub most_incoming : ℕ
most_incoming = 1400000000000000000
