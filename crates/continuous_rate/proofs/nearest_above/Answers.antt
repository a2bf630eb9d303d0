use mathlib.Core.Path.{◌≡◌, ◌∙◌}
use Prim.Native.Nat.{◌+◌, ◌-◌}
use native.Mathlib.Omega.{arith}
use Rattle.continuous_rate.proofs.Near.{reach-most}
use Rattle.continuous_rate.proofs.Window.{falls-past, starts-above, above-window}
use Rattle.continuous_rate.proofs.nearest_above.Goals as goal

pub passing-place-requires : goal.passing-place-requires
passing-place-requires c = starts-above c.args.discount c.requires

pub window_end-requires : goal.window_end-requires
window_end-requires c = (c.passing-place.ensures.top, reach-most _ _ c.reach-far.ensures)

pub returns : goal.returns
returns c =
    let from = c.window_start-from.result in
    let end = c.window_end.result in
    let e = c.window_end.ensures in
    let s = c.window_start-from.ensures in
    let join : from + (end - from) ≡ end = omega (arith, e, s) in
    c.nearest_between.ensures
    ∙ above-window _ _ _ from (end - from) (falls-past _ _ c.passing-place.ensures) c.reach-far.ensures s
    (rw join e.0) (rw join e.1) (rw join e.2)
