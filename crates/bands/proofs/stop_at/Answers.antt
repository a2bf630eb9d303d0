use Rattle.std.proofs.Common.{◌≡◌, length, arith}
use Rattle.bands.specs.Bands.{bands_of}
use Rattle.bands.proofs.StopLaws.{stop-none, stop-more, covering-most}
use Rattle.bands.proofs.stop_at.Goals as goal

pub loop-k-init : goal.loop-k-init
loop-k-init c = stop-none _ _ _ _ (omega arith) (omega arith)

pub add_band-stop-requires : goal.add_band-stop-requires
add_band-stop-requires c =
    let b = bands_of c.args.firsts.now c.args.lasts.now c.args.lowests.now c.args.highests.now in
    let few = covering-most b c.args.row c.args.price c.loop-k.k in
    (omega (arith, few, c.loop-k.invariant.counted), c.loop-k.invariant.further, c.loop-k.invariant.most)

pub loop-k-preserved : goal.loop-k-preserved
loop-k-preserved c = stop-more _ _ _ c.loop-k.invariant c.add_band-stop.ensures

pub returns : goal.returns
returns c =
    let all : c.loop-k.k ≡ length c.args.firsts.now = omega arith in
    rw all at c.loop-k.invariant
