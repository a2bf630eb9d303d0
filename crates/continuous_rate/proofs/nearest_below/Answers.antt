use native.Mathlib.Omega.{arith}
use Rattle.continuous_rate.proofs.Window.{rises-past, starts-below, below_stays, below-moves}
use Rattle.continuous_rate.proofs.nearest_below.Goals as goal

pub passing-place-requires : goal.passing-place-requires
passing-place-requires c = starts-below c.args.discount c.requires.0

pub side_miss-requires : goal.side_miss-requires
side_miss-requires c = omega (arith, (rises-past _ _ c.requires.1 c.passing-place.ensures).inside)

pub side_miss-requires-2 : goal.side_miss-requires-2
side_miss-requires-2 c = omega (arith, (rises-past _ _ c.requires.1 c.passing-place.ensures).inside)

pub returns-then-side_miss : goal.returns-then-side_miss
returns-then-side_miss c =
    below-moves _ _ (rises-past _ _ c.requires.1 c.passing-place.ensures) (omega (arith, c.side_miss.ensures, c.side_miss-2.ensures))

pub returns : goal.returns
returns c =
    below_stays _ _ (rises-past _ _ c.requires.1 c.passing-place.ensures) (omega (arith, c.side_miss.ensures, c.side_miss-2.ensures))
