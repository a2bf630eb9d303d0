use Rattle.std.proofs.Common.{refl, arith}
use Rattle.pair_laws.proofs.Squares.{cells-empty, cells-column, cells-done, column-of-row, leads-inside, leads-whole, leads-across}
use Rattle.pair_pricing.proofs.squares.spread_side.Goals as goal

pub loop-l-init : goal.loop-l-init
loop-l-init c = cells-empty _ _ _

pub spread_column-requires : goal.spread_column-requires
spread_column-requires c =
    let downs = c.args.downs.now in
    let next = c.args.next in
    let l = c.loop-l.l in
    let e = c.row_branch-branch.ensures in (
      leads-whole downs next l c.requires.0 (omega arith) c.requires.3 _ e,
      leads-inside downs next l c.requires.0 (omega arith) c.requires.3 _ e,
      omega arith,
      c.requires.4,
      c.requires.5,
      c.requires.6 l c.loop-l-test.true,
      c.requires.7,
      leads-across downs next l c.requires.0 (omega arith) c.requires.3 _ e _ c.args.middle.now c.requires.8,
      c.requires.9,
      omega arith,
    )

pub loop-l-preserved : goal.loop-l-preserved
loop-l-preserved c =
    let l = c.loop-l in
    cells-column _ _ l.square _ l.l (omega arith) l.invariant
    (column-of-row _ c.args.downs.now c.args.next c.args.rates.now c.args.spreads.now c.args.middle.now _ _ c.args.flow l.l _ _
    c.row_branch-branch.ensures refl c.spread_column.ensures.1)

pub returns : goal.returns
returns c = (omega arith, cells-done c.loop-l.invariant (omega arith) (omega arith))
