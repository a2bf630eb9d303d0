use mathlib.Core.Path.{◌∙◌}
use Rattle.lattice.proofs.ShapeLaws.{shape-steep, shape-no-table, shape-past, shape-last, shape-found}
use Rattle.lattice.proofs.row_shape.Goals as goal

pub returns-then-reversion-gt-MOST_REVERSION : goal.returns-then-reversion-gt-MOST_REVERSION
returns-then-reversion-gt-MOST_REVERSION c = c.refused_shape.ensures ∙ shape-steep _ _ _ c.before.if-reversion-gt-MOST_REVERSION.true

pub returns-then-widest-gt-MOST_STEPS : goal.returns-then-widest-gt-MOST_STEPS
returns-then-widest-gt-MOST_STEPS c = c.refused_shape-then-widest-gt-MOST_STEPS.ensures ∙ shape-no-table _ _ _ c.before.before.if-reversion-gt-MOST_REVERSION.false c.before.if-widest-gt-MOST_STEPS.true

pub returns-then-widest-row : goal.returns-then-widest-row
returns-then-widest-row c = c.refused_shape-then-widest-row.ensures ∙ shape-past _ _ _ c.before.before.before.if-reversion-gt-MOST_REVERSION.false c.before.before.if-widest-gt-MOST_STEPS.false c.before.if-widest-row.true

pub returns-then-row-ge-MOST_STEPS : goal.returns-then-row-ge-MOST_STEPS
returns-then-row-ge-MOST_STEPS c =
    let past = c.before.before in
    c.refused_shape-then-row-ge-MOST_STEPS.ensures ∙ shape-last _ _ _ past.before.before.if-reversion-gt-MOST_REVERSION.false past.before.if-widest-gt-MOST_STEPS.false past.if-widest-row.false c.before.if-row-ge-MOST_STEPS.true

pub returns : goal.returns
returns c =
    let past = c.before.before in
    c.shape_of.ensures ∙ shape-found _ _ _ past.before.before.if-reversion-gt-MOST_REVERSION.false past.before.if-widest-gt-MOST_STEPS.false past.if-widest-row.false c.before.if-row-ge-MOST_STEPS.false
