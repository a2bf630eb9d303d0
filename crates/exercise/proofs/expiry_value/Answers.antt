use mathlib.Core.Path.{ap, ◌∙◌}
use Rattle.pricing_laws.specs.Pricer.{exercise}
use Rattle.exercise.specs.Terms.{side}
use Rattle.exercise.proofs.expiry_value.Goals as goal

pub returns : goal.returns
returns c =
    c.exercise_value.ensures ∙ ap (exercise (side c.args.call) c.args.strike) c.excess.ensures
