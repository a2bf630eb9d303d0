-- What a quoted figure is in billionths (document 01, Quotes). A float is `fin s m e`: its significand m times 2 ^ e, negative where s is
-- true; 2 ^ e is the fraction up e / down e.
-- Assumes nothing.
use Rattle.std.specs.Prelude.{ℕ, ◌*◌, Bool, true, false, cond, ltb, ℤ, pos, neg_ℤ, Float, Result, Ok, Err}
use Rattle.std.specs.Float.{nan, inf, fin, binary64}
use Rattle.std.specs.Float.Ieee.{up, down, of_bits, is_nan}
use Rattle.arithmetic.specs.Rounding.{one, nearest}
use Rattle.arithmetic.specs.Refusals.{number_of}
use Rattle.arithmetic.specs.declared.Refusal.{Refusal}

-- a signed number of billionths with number 0, or the number of a refusal with zero
pub record Figure : Type 0 where
  pub number : ℕ
  pub value : ℤ

-- the exact binary value's size times one, to the nearest whole number
unfoldable pub magnitude_of : Float → ℕ
unfolding nearest
magnitude_of nan = 0
magnitude_of (inf s) = 0
magnitude_of (fin s m e) = nearest (m * up e * one) (down e)

-- the float's sign
abbrev pub negative : Float → Bool
negative nan = false
negative (inf s) = s
negative (fin s m e) = s

abbrev pub signed : Bool → ℕ → ℤ
signed true n = neg_ℤ (pos n)
signed false n = pos n

-- the figure in billionths, sign kept; -0.0 gives 0
unfoldable pub billionths_of : Float → ℤ
unfolding magnitude_of
billionths_of x = signed (negative x) (magnitude_of x)

-- NaN, an infinity, or beyond 10 either way, before rounding
unfoldable pub beyond : Float → Bool
beyond nan = true
beyond (inf s) = true
beyond (fin s m e) = ltb (10 * down e) (m * up e)

-- refusal 7 with zero
abbrev pub refused_figure : Figure
refused_figure = record { number = 7; value = pos 0 }

abbrev pub accepted_figure : ℤ → Figure
accepted_figure z = record { number = 0; value = z }

-- billionths that may be refused, as such an answer
abbrev pub figure_given : Result ℤ Refusal → Figure
figure_given (Ok value) = accepted_figure value
figure_given (Err refusal) = record { number = number_of refusal; value = pos 0 }

-- the answer to a float
unfoldable pub figure_of : Float → Figure
unfolding beyond billionths_of
figure_of x = cond (beyond x) refused_figure (accepted_figure (billionths_of x))

-- the float of a pattern of 64 bits; a NaN's pattern gives an infinity
unfoldable pub pattern_float : ℕ → Float
unfolding is_nan of_bits
pattern_float bits = cond (is_nan (of_bits binary64 bits)) (inf false) (of_bits binary64 bits)
