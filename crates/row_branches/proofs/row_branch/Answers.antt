use mathlib.Core.Path.{◌∙◌}
use native.Mathlib.Omega.{arith}
use Rattle.row_branches.proofs.BranchLaws as laws
use Rattle.row_branches.proofs.row_branch.Goals as goal

pub returns-then-count-index : goal.returns-then-count-index
returns-then-count-index c = c.no_branch.ensures ∙ laws.branch-past _ _ _ c.if-count-index.true

pub returns-then-down-gt-PROBABILITY_TOTAL : goal.returns-then-down-gt-PROBABILITY_TOTAL
returns-then-down-gt-PROBABILITY_TOTAL c = c.no_branch-then-down-gt-PROBABILITY_TOTAL.ensures ∙ laws.branch-over _ _ _ c.if-count-index.false (omega arith)

pub returns-then-down-up : goal.returns-then-down-up
returns-then-down-up c = c.no_branch-then-down-up.ensures ∙ laws.branch-over _ _ _ c.if-count-index.false (omega arith)

pub returns : goal.returns
returns c = laws.branch-found _ _ _ c.if-count-index.false _ c.lowest_target.ensures (omega arith)
