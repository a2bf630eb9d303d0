use mathlib.Core.Path.{◌≡◌, sym, ap, ◌∙◌}
use mathlib.Core.Bool.{false}
use Prim.Native.Nat.{◌≤◌}
use native.Mathlib.Nat.{mul-le-mul}
use native.Mathlib.Omega.{arith}
use lib.IntN.{pos, nat_abs}
use lib.Signed.{lt_z}
use mir.Facts.{to_z-of_z}
use Rattle.arithmetic.proofs.Signed.{not_negative}
use Rattle.branches.proofs.BranchLaws as laws
use Rattle.branches.proofs.branch.Goals as goal
use Rattle.branches.proofs.branch.Goals.{After-magnitude-distance}

size : (c : After-magnitude-distance) → c.magnitude-distance.result ≡ nat_abs c.args.node
size c = rw (to_z-of_z c.ranges.node) at c.magnitude-distance.ensures

pub returns-then-reversion-gt-MOST_REVERSION : goal.returns-then-reversion-gt-MOST_REVERSION
returns-then-reversion-gt-MOST_REVERSION c = sym (laws.answer-steep _ _ _ c.if-reversion-gt-MOST_REVERSION.true)

pub returns-then-row-ge-MOST_STEPS : goal.returns-then-row-ge-MOST_STEPS
returns-then-row-ge-MOST_STEPS c =
    sym (laws.answer-past _ _ _ c.if-reversion-gt-MOST_REVERSION.false c.if-row-ge-MOST_STEPS.true)

pub returns-then-row-distance : goal.returns-then-row-distance
returns-then-row-distance c =
    let s = size (goal.at.returns-then-row-distance c).After-magnitude-distance in
    sym (laws.answer-wide _ _ _ c.if-reversion-gt-MOST_REVERSION.false c.if-row-ge-MOST_STEPS.false _ s c.if-row-distance.true)

pub overflow_mul-distance : goal.overflow_mul-distance
overflow_mul-distance c =
    let s : c.magnitude-distance.result ≤ 59 = omega arith in
    omega (arith, mul-le-mul s c.if-reversion-gt-MOST_REVERSION.false)

pub returns-then-reversion-distance : goal.returns-then-reversion-distance
returns-then-reversion-distance c =
    let s = size (goal.at.returns-then-reversion-distance c).After-magnitude-distance in
    sym (laws.answer-beyond _ _ _ c.if-reversion-gt-MOST_REVERSION.false c.if-row-ge-MOST_STEPS.false _ s c.if-reversion-distance.true)

pub lower_branch-requires : goal.lower_branch-requires
lower_branch-requires c =
    record {
      reversion_le_most_reversion = (omega arith, omega arith, c.if-reversion-distance.false);
      node_value = (sym c.magnitude-distance.ensures, c.if-node-lt0.true);
    }

pub returns-then-node-lt0 : goal.returns-then-node-lt0
returns-then-node-lt0 c =
    let s = size (goal.at.returns-then-node-lt0 c).After-magnitude-distance in
    (rw (to_z-of_z c.ranges.node) at c.lower_branch.ensures)
    ∙ sym (laws.answer-found _ _ _ c.if-reversion-gt-MOST_REVERSION.false c.if-row-ge-MOST_STEPS.false _ s
    c.if-row-distance.false c.if-reversion-distance.false)

pub upper_branch-requires : goal.upper_branch-requires
upper_branch-requires c =
    let f = c.ranges.node in
    let s = size (goal.at.upper_branch-requires c).After-magnitude-distance in
    let above : lt_z c.args.node (pos 0) ≡ false = rw (to_z-of_z f) at c.if-node-lt0.false in
    record {
      reversion_le_most_reversion = (omega arith, omega arith, c.if-reversion-distance.false);
      node_value = rw (to_z-of_z f) (not_negative c.args.node above ∙ ap pos (sym s));
    }

pub returns : goal.returns
returns c =
    let s = size (goal.at.returns c).After-magnitude-distance in
    (rw (to_z-of_z c.ranges.node) at c.upper_branch.ensures)
    ∙ sym (laws.answer-found _ _ _ c.if-reversion-gt-MOST_REVERSION.false c.if-row-ge-MOST_STEPS.false _ s
    c.if-row-distance.false c.if-reversion-distance.false)
