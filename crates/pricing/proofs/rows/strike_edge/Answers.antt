use Prim.Native.Nat.{◌+◌, ◌<◌}
use native.Mathlib.Omega.{arith}
use lib.ListN.{length}
use Rattle.arithmetic.proofs.Implied.{implied}
use Rattle.exercise.specs.Terms.{side}
use Rattle.pricing.proofs.RowSteps.{branch-inside, branch-whole, branch-limited, branch-rolled, row-resume, row_next, row_done}
use Rattle.pricing.proofs.StripRows.{strike-from-roll}
use Rattle.pricing.proofs.rows.strike_edge.Goals as goal
use Rattle.pricing.proofs.rows.strike_edge.Goals.{Else-edge-eq0}

pub returns-then-edge-eq0 : goal.returns-then-edge-eq0
returns-then-edge-eq0 c = row_done
    (row-resume _ _ _ _ c.requires.6) (omega (arith, c.if-edge-eq0.true))

-- the node stands in the row
inside : (c : Else-edge-eq0) → c.args.index < length
    c.args.discounts.now
inside c = omega (arith, c.requires.4, c.requires.5, c.if-edge-eq0.false)

pub roll_node-roll-requires : goal.roll_node-roll-requires
roll_node-roll-requires c =
    let h = inside (goal.at.roll_node-roll-requires c).Else-edge-eq0 in
    let e = c.row_branch-branch.ensures in (
      branch-inside {later = c.args.options.now} c.requires.0 c.requires.1 h _ e,
      branch-whole {later = c.args.options.now} c.requires.0 c.requires.1 h _ e,
      branch-limited {later = c.args.options.now} c.requires.0 c.requires.1 h _ e,
      c.requires.0.discounted c.args.index h,
    )

pub returns : goal.returns
returns c =
    let right = c.args.right in
    let h = inside (goal.at.returns c).Else-edge-eq0 in
    let roll = branch-rolled c.requires.0 c.requires.1 h _ c.row_branch-branch.ensures _
    c.roll_node-roll.ensures.0 in
    row_done {k = c.args.index + 1}
    (row_next _ c.args.option.now _ c.args.greatest c.args.index _ _ (row-resume _ _ _ _ c.requires.6) (omega (arith, c.requires.3))
    (strike-from-roll (side right.call) right.strike right.listed c.args.bare.now implied roll c.held_value-held.ensures)
    c.larger.ensures)
    (omega (arith, c.requires.4, c.if-edge-eq0.false))
