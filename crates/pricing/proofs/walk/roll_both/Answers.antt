use Rattle.std.proofs.Common.{[], arith}
use Rattle.pricing_laws.specs.inside.Marks.{marked}
use Rattle.pricing.proofs.WalkStates.{late-refused, rolled-answer}
use Rattle.pricing.proofs.walk.roll_both.Goals as goal

pub roll_bond-requires : goal.roll_bond-requires
roll_bond-requires c = (c.requires.0, c.requires.1.last-inside)

pub returns-in-None : goal.returns-in-None
unfolding marked
returns-in-None c =
    rolled-answer c.over.result c.over.ensures
    (late-refused _ _ _ _ c.requires.0.tree c.requires.0.paid _ _ _ c.requires.1.last-inside 12 [] c.in-None.ensures (λ z. omega arith))
