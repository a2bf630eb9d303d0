use Rattle.fitting.proofs.FitEntry as laws
use Rattle.fitting.proofs.fit.Goals as goal

pub fit_tree-requires : goal.fit_tree-requires
fit_tree-requires c = laws.spacing-known _ _ _ c.spacing-spaced.ensures

pub returns : goal.returns
returns c =
    laws.clauses (laws.fit-answered _ _ _ _ _ _ _ _ _ _ c.spacing-spaced.ensures
    (c.fit_tree.ensures.number, (c.fit_tree.ensures.discounted, c.fit_tree.ensures.priced)))
