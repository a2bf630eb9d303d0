use Rattle.std.proofs.Common.{◌+◌, refl, arith}
use Rattle.pair_laws.proofs.Squares.{cell-most, rate-from, line_first, line-more, line-done}
use Rattle.pair_pricing.proofs.squares.rate_line.Goals as goal

pub loop-l-init : goal.loop-l-init
loop-l-init c = line_first _ _ _

pub average-requires : goal.average-requires
average-requires c =
    let t = c.loop-l-test.true in
    let xs = c.args.later.now in
    let low = c.args.branch.low in (
      c.requires.0,
      omega arith,
      cell-most _ _ _ xs c.requires.4 low c.loop-l.l _ refl (omega arith) t,
      cell-most _ _ _ xs c.requires.4 (low + 1) c.loop-l.l _ (omega arith) (omega arith) t,
      cell-most _ _ _ xs c.requires.4 (low + 2) c.loop-l.l _ (omega arith) (omega arith) t,
    )

pub loop-l-preserved : goal.loop-l-preserved
loop-l-preserved c =
    let l = c.loop-l in
    line-more c.args.line _ _ l.middle l.l _ (omega arith) l.invariant
    (rate-from c.args.branch c.args.later.now _ _ l.l refl c.average.ensures.0)

pub returns : goal.returns
returns c = (omega arith, line-done c.loop-l.invariant (omega arith))
