use Rattle.std.proofs.Common.{◌≡◌, ◌+◌, arith}
use Rattle.arithmetic.proofs.RowLaws.{filled_next}
use Rattle.state_price_bound.proofs.BoundLaws as laws
use Rattle.state_price_bound.proofs.bounds_of_rows.Goals as goal

pub loop-index-init : goal.loop-index-init
loop-index-init c = (laws.reached-start c.first_row-reached.ensures, rw c.no_bounds-bounds.ensures (laws.bounds-start _ _))

pub next_row-reached-requires : goal.next_row-reached-requires
next_row-reached-requires c = (laws.before_last _ _ _ _ c.requires (omega arith), c.loop-index.invariant.0)

pub offset_bounds-bounds-index : goal.offset_bounds-bounds-index
offset_bounds-bounds-index c = omega (arith, c.requires.row-within-limit)

pub bounds-bounds-index : goal.bounds-bounds-index
bounds-bounds-index c = omega (arith, c.requires.row-within-limit)

pub loop-index-preserved : goal.loop-index-preserved
loop-index-preserved c = (
  c.next_row-reached.ensures,
  filled_next {i = c.loop-index.index + 1} c.loop-index.invariant.1 (omega (arith, c.requires.row-within-limit)) c.next_row-reached.ensures.bounds,
)

pub returns : goal.returns
returns c =
    let end : c.loop-index.index ≡ c.args.steps = omega arith in
    laws.bounds-filled _ _ _ _ (rw end at c.loop-index.invariant.1)
