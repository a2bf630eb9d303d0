-- Worked examples of document 01, computed. `round binary64 s n d` is the float nearest to n / d, negative where s is true.
-- Assumes nothing.
use mathlib.Core.Path.{◌≡◌, refl}
use mathlib.Core.Bool.{true, false}
use lib.IntN.{pos, negsuc}
use lib.Ieee.{binary64, round, of_bits}
use Rattle.figure.specs.Figure.{figure_of, accepted_figure}

-- * -0.0025 gives -2,500,000
pub negative-figure : figure_of (round binary64 true 25 10000) ≡ accepted_figure (negsuc 2499999)
unfolding round figure_of
negative-figure = refl

-- * 0.0009765625 gives 976,563: a half goes away from zero
pub half-figure : figure_of (round binary64 false 9765625 10000000000) ≡ accepted_figure (pos 976563)
unfolding round figure_of
half-figure = refl

-- -0.0 gives 0
pub zero-figure : figure_of (round binary64 true 0 1) ≡ accepted_figure (pos 0)
unfolding round figure_of
zero-figure = refl

-- exactly -10 is a figure
pub ten-figure : figure_of (round binary64 true 10 1) ≡ accepted_figure (negsuc 9999999999)
unfolding round figure_of
ten-figure = refl

-- the float of document 01's job
pub job-figure : figure_of (of_bits binary64 0x3FF00A3D70A3D70A) ≡ accepted_figure (pos 1002500000)
unfolding of_bits figure_of
job-figure = refl
