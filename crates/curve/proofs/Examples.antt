-- Worked curves, computed. `round binary64 s n d` is the float nearest to n / d, negative where s is true.
-- Assumes nothing.
use mathlib.Core.Path.{◌≡◌, refl}
use mathlib.Core.Bool.{true, false}
use mathlib.Core.List.{[], ◌∷◌}
use lib.Ieee.{nan, binary64, round, of_bits}
use Rattle.quotes.specs.Quotes.{lone_answer}
use Rattle.figure.specs.Figure.{beyond, billionths_of}
use Rattle.curve.specs.Curve.{curve_number, curve_memory}

-- the curve of document 01's job, and a rate of -0.0025 after it, in a memory of three
pub two-rows :
    curve_memory 1 2 (1 ∷ 2 ∷ []) (5 ∷ 6 ∷ []) (of_bits binary64 0x3FF00A3D70A3D70A ∷ round binary64 true 25 10000 ∷ []) (4 ∷ 4 ∷ 4 ∷ [])
    ≡ 1002500000 ∷ 1005025125 ∷ 4 ∷ []
unfolding curve_memory lone_answer beyond billionths_of round of_bits
two-rows = refl

-- a row out of place in the last point wins over a NaN in the first
pub place-first : curve_number 1 2 (1 ∷ 3 ∷ []) (5 ∷ 5 ∷ []) (nan ∷ round binary64 false 1 1 ∷ []) 2 ≡ 6
unfolding curve_number
place-first = refl

-- so does a memory that is too short
pub short-first : curve_number 1 1 (1 ∷ []) (5 ∷ []) (nan ∷ []) 0 ≡ 6
unfolding curve_number
short-first = refl
