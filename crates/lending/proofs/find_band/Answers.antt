use mathlib.Core.Path.{◌≡◌, sym, ◌∙◌}
use native.Mathlib.Omega.{arith}
use lib.ListN.{length}
use Rattle.lending.specs.Lending.{band_index}
use Rattle.bands.proofs.FirstLaws.{searched-start, searched-more, searched-found, searched-none}
use Rattle.lending.proofs.find_band.Goals as goal

pub loop-k-init : goal.loop-k-init
loop-k-init c = searched-start (omega arith)

pub returns-then-is_within : goal.returns-then-is_within
unfolding band_index
returns-then-is_within c =
    searched-found c.loop-k.k c.loop-k.invariant (omega arith) (sym c.is_within.ensures ∙ c.if-is_within.true)

pub loop-k-preserved : goal.loop-k-preserved
loop-k-preserved c =
    searched-more c.loop-k.k c.loop-k.invariant (omega arith) (sym c.is_within.ensures ∙ c.if-is_within.false)

pub returns : goal.returns
unfolding band_index
returns c =
    let end : c.loop-k.k ≡ length c.args.firsts.now = omega (arith, c.loop-k.invariant.most) in
    searched-none (rw end at c.loop-k.invariant)
