use Rattle.curve.specs.Curve.{answer_at}
use Rattle.curve.proofs.answer_at.Goals as goal

pub returns : goal.returns
unfolding answer_at
returns c = c.lone_point.ensures
