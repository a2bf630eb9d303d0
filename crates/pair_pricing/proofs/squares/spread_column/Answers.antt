use Rattle.std.proofs.Common.{◌+◌, refl, arith}
use Rattle.pair_laws.proofs.Squares.{cell-most, spread-from, column-first, column-more, column-done}
use Rattle.pair_pricing.proofs.squares.spread_column.Goals as goal

pub loop-a-init : goal.loop-a-init
loop-a-init c = column-first _ _ _

pub average-value-requires : goal.average-value-requires
average-value-requires c =
    let t = c.loop-a-test.true in
    let a = c.loop-a.a in
    let xs = c.args.middle.now in
    let low = c.args.branch.low in (
      c.requires.0,
      omega arith,
      cell-most _ _ _ xs c.requires.7 a low _ refl t (omega arith),
      cell-most _ _ _ xs c.requires.7 a (low + 1) _ (omega arith) t (omega arith),
      cell-most _ _ _ xs c.requires.7 a (low + 2) _ (omega arith) t (omega arith),
    )

pub discounted-requires : goal.discounted-requires
discounted-requires c = (c.average-value.ensures.1, c.requires.4 c.loop-a.a c.loop-a-test.true, c.requires.5)

pub loop-a-preserved : goal.loop-a-preserved
loop-a-preserved c =
    let l = c.loop-a in
    column-more c.args.column _ _ l.square l.a _ c.requires.2 (omega arith) l.invariant
    (spread-from c.args.branch c.args.middle.now _ _ l.a _ _ _ c.args.flow refl c.average-value.ensures.0 c.discounted.ensures.0)

pub returns : goal.returns
returns c = (omega arith, column-done c.loop-a.invariant (omega arith))
