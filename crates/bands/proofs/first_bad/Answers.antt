use mathlib.Core.Path.{◌≡◌, sym, ◌∙◌}
use native.Mathlib.Omega.{arith}
use mathlib.Core.Bool.{not}
use mathlib.Core.Path.{ap}
use lib.ListN.{length}
use Rattle.bands.specs.Bands.{bad_index}
use Rattle.bands.proofs.FirstLaws.{searched-start, searched-more, searched-found, searched-none}
use Rattle.bands.proofs.first_bad.Goals as goal

pub loop-k-init : goal.loop-k-init
loop-k-init c = searched-start (omega arith)

pub returns-then-not-is_sound : goal.returns-then-not-is_sound
unfolding bad_index
returns-then-not-is_sound c =
    (searched-found c.loop-k.k c.loop-k.invariant (omega arith) (ap not (sym c.is_sound.ensures ∙ c.if-not-is_sound.true)), omega arith)

pub loop-k-preserved : goal.loop-k-preserved
loop-k-preserved c =
    searched-more c.loop-k.k c.loop-k.invariant (omega arith)
    (ap not (sym c.is_sound.ensures ∙ c.if-not-is_sound.false))

pub returns : goal.returns
unfolding bad_index
returns c =
    let end : c.loop-k.k ≡ length c.args.firsts.now = omega (arith, c.loop-k.invariant.most) in
    searched-none (rw end at c.loop-k.invariant)
