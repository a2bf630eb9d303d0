use Rattle.std.proofs.Common.{arith}
use Rattle.pair_laws.proofs.Squares.{cells-none, cells-line, cells-done, line-of-row, leads-inside, leads-whole, leads-limited}
use Rattle.pair_pricing.proofs.squares.rate_side.Goals as goal

pub loop-j-init : goal.loop-j-init
loop-j-init c = cells-none _ _ _

pub rate_line-requires : goal.rate_line-requires
rate_line-requires c =
    let downs = c.args.downs.now in
    let t = c.loop-j-test.true in
    let e = c.row_branch-branch.ensures in (
      leads-whole downs c.args.next c.loop-j.j c.requires.0 t c.requires.2 _ e,
      leads-inside downs c.args.next c.loop-j.j c.requires.0 t c.requires.2 _ e,
      omega arith,
      c.requires.3,
      leads-limited downs c.args.next c.loop-j.j c.requires.0 t c.requires.2 _ e c.args.width c.args.later.now c.requires.4,
      c.requires.5,
      omega arith,
    )

pub loop-j-preserved : goal.loop-j-preserved
loop-j-preserved c =
    let l = c.loop-j in
    cells-line _ c.args.width l.middle _ l.j c.requires.3 l.invariant
    (line-of-row _ c.args.downs.now c.args.next c.args.later.now _ _ l.j c.args.width c.row_branch-branch.ensures c.rate_line.ensures.1)

pub returns : goal.returns
returns c = (omega arith, cells-done c.loop-j.invariant (omega arith) (omega arith))
