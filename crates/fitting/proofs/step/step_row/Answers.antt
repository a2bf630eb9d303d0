use Rattle.fitting.proofs.RowStep as laws
use Rattle.fitting.proofs.step.step_row.Goals as goal

pub normaliser_of-z-requires : goal.normaliser_of-z-requires
normaliser_of-z-requires c = (c.requires.factors-bounded, c.requires.row-sum-most)

pub fill_row-requires : goal.fill_row-requires
fill_row-requires c =
    let ready = c.requires in (
      laws.cleared-ready ready c.clear.ensures,
      laws.positive ready _ c.normaliser_of-z.ensures,
      laws.cleared-again ready c.clear.ensures,
    )

pub returns : goal.returns
returns c =
    let loop = c.fill_row.ensures in
    laws.stepped c.normaliser_of-z.ensures _ _ _ _ c.clear.ensures loop.tested loop.filled loop.spreads
