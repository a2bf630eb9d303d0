use Rattle.fitting.proofs.FitEntry as laws
use Rattle.fitting.proofs.fit_version.Goals as goal

pub fit_tree-requires : goal.fit_tree-requires
fit_tree-requires c = laws.version-known _ _ _ _ c.version_spacing-spaced.ensures

pub returns : goal.returns
returns c =
    laws.clauses (laws.version-answered _ _ _ _ _ _ _ _ _ _ _ _ c.working_or_same-working.ensures c.version_spacing-spaced.ensures
    (c.fit_tree.ensures.number, (c.fit_tree.ensures.discounted, c.fit_tree.ensures.priced)))
