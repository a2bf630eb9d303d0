use Rattle.fitting.proofs.StepRows.{spread-once}
use Rattle.fitting.proofs.step.spread_node.Goals as goal

pub scatter-requires : goal.scatter-requires
scatter-requires c =
    rw c.row_branch-branch.ensures c.requires

pub returns : goal.returns
returns c =
    spread-once c.args.downs.now c.args.index c.args.amount c.args.sums.now _ _
    c.row_branch-branch.ensures c.scatter.ensures
