use mathlib.Core.Path.{◌∙◌}
use native.Mathlib.Omega.{arith}
use Rattle.factor.proofs.NodeLaws.{nearer-fits, nearer-held, nearer-less, node-below, whole-cast, node-above}
use Rattle.factor.proofs.factor_of_node.Goals as goal

pub overflow_sub-nearer : goal.overflow_sub-nearer
overflow_sub-nearer c = nearer-fits _ c.ranges.node c.if-node-lt0.true

pub overflow_cast-nearer : goal.overflow_cast-nearer
overflow_cast-nearer c =
    rw (nearer-held _ c.ranges.node c.if-node-lt0.true)
    (tt, record { fits = omega (arith, nearer-less _ c.ranges.node c.if-node-lt0.true) })

pub overflow_add-nearer : goal.overflow_add-nearer
overflow_add-nearer c =
    rw (nearer-held _ c.ranges.node c.if-node-lt0.true)
    (omega (arith, nearer-less _ c.ranges.node c.if-node-lt0.true))

pub returns-then-node-lt0 : goal.returns-then-node-lt0
returns-then-node-lt0 c =
    (rw (nearer-held _ c.ranges.node c.if-node-lt0.true) at c.factor.ensures)
    ∙ node-below _ c.ranges.node c.if-node-lt0.true _

pub overflow_cast-node : goal.overflow_cast-node
overflow_cast-node c = whole-cast _ c.ranges.node c.if-node-lt0.false

pub returns : goal.returns
returns c = c.factor-2.ensures ∙ node-above _ c.ranges.node c.if-node-lt0.false _
