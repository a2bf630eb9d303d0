-- The step rate of a discount (document 01, Spacing and fit).
-- Assumes nothing.
use Rattle.std.specs.Prelude.{ℕ, cond, not, ℤ, pos, ◌-ℤ◌, ◌*ℤ◌, Result, Ok, Err}
use Rattle.arithmetic.specs.Rounding.{one, nearest_signed}
use Rattle.arithmetic.specs.Refusals.{number_of}
use Rattle.arithmetic.specs.declared.Refusal.{Refusal}
use Rattle.limits.specs.Limits.{is_discount}
use Rattle.step_rate.specs.declared.Rate.{Rate}

-- (one - v) × one / v, nearest
unfoldable pub step_rate : ℕ → ℤ
unfolding nearest_signed
step_rate v = nearest_signed ((pos one -ℤ pos v) *ℤ pos one) v

-- refusal 9 with zero
abbrev pub refused_rate : Rate
refused_rate = record { number = 9; value = pos 0 }

abbrev pub answered_rate : ℤ → Rate
answered_rate z = record { number = 0; value = z }

-- a rate that may be refused, as C sees it
abbrev pub rate_of : Result ℤ Refusal → Rate
rate_of (Ok value) = answered_rate value
rate_of (Err refusal) = record { number = number_of refusal; value = pos 0 }

-- the answer to a discount
unfoldable pub rate_answer : ℕ → Rate
unfolding step_rate
rate_answer v = cond (not (is_discount v)) refused_rate (answered_rate (step_rate v))
