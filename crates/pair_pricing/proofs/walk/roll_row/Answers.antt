use Rattle.std.proofs.Common.{refl, arith}
use Rattle.pair_laws.proofs.SquareRows.{table-room, discount-room, pair-rollable, limited-cells, pairs-rolled}
use Rattle.pair_pricing.proofs.walk.roll_row.Goals as goal

pub part-requires : goal.part-requires
part-requires c =
    table-room _ _ _ c.args.rates.now c.requires.0.rate-tree c.requires.2 _ c.row_shape-rate.ensures _ c.requires.1.rate-table

pub part-requires-2 : goal.part-requires-2
part-requires-2 c =
    table-room _ _ _ c.args.spreads.now c.requires.0.spread-tree c.requires.2 _ c.row_shape-spread.ensures _ c.requires.1.spread-table

pub part-requires-3 : goal.part-requires-3
part-requires-3 c =
    discount-room _ _ _ c.args.rates.now c.requires.0.rate-tree c.requires.2 _ c.row_shape-rate.ensures

pub part-requires-4 : goal.part-requires-4
part-requires-4 c =
    discount-room _ _ _ c.args.spreads.now c.requires.0.spread-tree c.requires.2 _ c.row_shape-spread.ensures

pub roll-requires : goal.roll-requires
roll-requires c =
    let row-shape = c.row_shape-rate in (
      pair-rollable c.args.trees.steps c.args.trees.rate c.args.trees.spread c.args.row c.args.rates.now c.args.spreads.now
          c.requires.0 c.requires.2 _ _ row-shape.ensures c.row_shape-spread.ensures c.args.rate_downs.now c.args.spread_downs.now c.requires.1
          _ c.part.ensures c.part-2.ensures refl refl c.part-3.ensures c.part-4.ensures c.args.flow c.requires.3,
      limited-cells c.args.trees.steps c.args.trees.rate c.args.trees.spread c.args.row c.args.rates.now c.args.spreads.now
          c.requires.0 c.requires.2 _ _ row-shape.ensures c.row_shape-spread.ensures c.args.rate_downs.now c.args.spread_downs.now c.requires.1
          _ c.part.ensures c.part-2.ensures refl refl c.part-3.ensures c.part-4.ensures c.args.memory.now c.requires.4,
      omega arith,
      omega arith,
    )

pub returns : goal.returns
returns c =
    pairs-rolled c.args.trees.steps c.args.trees.rate c.args.trees.spread c.args.row c.args.rates.now c.args.spreads.now
    c.requires.0 c.requires.2 _ _ c.row_shape-rate.ensures c.row_shape-spread.ensures c.args.rate_downs.now c.args.spread_downs.now c.requires.1
    _ c.part.ensures c.part-2.ensures refl refl c.part-3.ensures c.part-4.ensures c.args.memory.now _ c.args.flow c.roll.ensures
