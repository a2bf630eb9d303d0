use native.Mathlib.Omega.{arith}
use Rattle.pair_laws.proofs.Squares.{middle-most, rolled-square}
use Rattle.pair_pricing.proofs.squares.roll.Goals as goal

pub spread_side-requires : goal.spread_side-requires
spread_side-requires c =
    let r = c.requires.0 in
    let side = c.rate_side.ensures in (
      r.spread-branches,
      r.spread-count,
      r.spread_line,
      r.spread-room,
      omega (arith, r.rate-count, r.rate-line),
      r.rate-discounts,
      r.spread-discounts,
      r.flow-most,
      middle-most c.args.rate_downs.now c.args.rate_next c.args.spread_next c.args.square.now _ r.rate-branches c.requires.1
          side.1 _ r.rate-count,
      side.0,
      c.requires.2,
    )

pub returns : goal.returns
returns c =
    rolled-square _ c.args.square.now c.rate_side.new.middle _ c.args.flow c.requires.0 c.rate_side.ensures.1
    c.spread_side.ensures.1
